-- Each parser of a query comes to a value or refuses a token.
use Rattle.std.proofs.Common.{ℕ, zero, suc, ℤ, Bool, ◌&&◌, List, [], ◌∷◌, Some, None}
use Rattle.sql_read.specs.declared.kind.Kind.{Kind}
use Rattle.sql_read.specs.declared.kind.Kind.TheVariants as k
use Rattle.sql_read.specs.declared.token_list.Token.{Token}
use Rattle.sql_read.specs.Lexis.{Bytes}
use Rattle.sql_read.specs.Schema.{is}
use Rattle.query_read.specs.declared.fault.Fault.{Fault}
use Rattle.query_read.specs.declared.fault.Fault.TheVariants.{Unexpected, TooDeep, NoDate, NoSpan, OutOfRange}
use Rattle.query_trees.specs.declared.expr.BinaryOp.{BinaryOp}
use Rattle.query_trees.specs.declared.expr.BinaryOp.TheVariants as op
use Rattle.query_trees.specs.declared.expr.Polarity.{Polarity}
use Rattle.query_trees.specs.declared.expr.Polarity.TheVariants.{Plain, Negated}
use Rattle.query_trees.specs.declared.expr.Expr.{Expr}
use Rattle.query_trees.specs.declared.clauses.Join.{Join}
use Rattle.query_trees.specs.declared.query.Query.{Query}
use Rattle.query_read.specs.Asked.{Asked}
use Rattle.query_read.specs.Classes.{multiplies, ranges, joins}
use Rattle.query_read.specs.Days.{no_date, no_span, leaves}
use Rattle.query_read.specs.Nodes.{signs, steps, compares, numerals, aggregates, of}
use Rattle.query_read.specs.ExpressionParsers as e
use Rattle.query_read.specs.ExpressionParsers.{Parser, Under}
use Rattle.query_read.specs.ClauseParsers as c
use Rattle.run_laws.proofs.ParserSteps.{Parses, parses_pure, parses_refuse, parses_expect, parses_then, parses_either, parses_repeat}

word : (kind : Kind) → Parses (e.expect kind)
word kind = parses_expect Unexpected (is kind)

one_of : (test : Kind → Bool) → Parses (e.expect_of test)
one_of test = parses_expect Unexpected (of test)

sound : (fault : Fault) (test bad : Token → Bool) → Parses (e.sound fault test bad)
unfolding e.sound
sound fault test bad = parses_either (λ t. test t && bad t) (parses_refuse fault) (parses_expect Unexpected test)

another : {A : Type 0} (q : Parser A) → Parses q → (xs : List A) → Parses (e.another q xs)
unfolding e.another
another q h xs = parses_then (word k.Comma) (λ _. parses_then h (λ x. parses_pure _))

series : {A : Type 0} (q : Parser A) → Parses q → Parses (e.series q)
unfolding e.series
series q h = parses_then h (λ x. parses_repeat (is k.Comma) (another q h) (x ∷ []))

column : (text : Bytes) → Parses (e.column text)
unfolding e.column
column text = parses_then (word k.Name) (λ n. parses_either (is k.Dot) (parses_then (word k.Dot) (λ _. parses_then (word k.Name) (λ c. parses_pure _))) (parses_pure _))

-- ---- dates

date_text : (m : Asked) (text : Bytes) → Parses (e.date_text m text)
unfolding e.date_text
date_text m text = parses_then (sound NoDate (is k.Quoted) (no_date m text)) (λ t. parses_pure _)

span_text : (m : Asked) (text : Bytes) → Parses (e.span_text m text)
unfolding e.span_text
span_text m text = parses_then (sound NoSpan (is k.Quoted) (no_span m text)) (λ t. parses_pure _)

last_day : (m : Asked) (day : ℤ) → Parses (e.last_day m day)
unfolding e.last_day
last_day m day = parses_then (sound OutOfRange (is k.Day) (leaves m day)) (λ _. parses_pure day)

step : (m : Asked) (text : Bytes) (day : ℤ) → Parses (e.step m text day)
unfolding e.step
step m text day = parses_then (one_of steps) (λ s. parses_then (word k.Interval) (λ _. parses_then (span_text m text) (λ days. last_day m _)))

date : (m : Asked) (text : Bytes) → Parses (e.date m text)
unfolding e.date
date m text = parses_then (word k.Date) (λ t. parses_then (date_text m text) (λ first. parses_then (parses_repeat (of steps) (step m text) first) (λ day. parses_pure _)))

-- ---- expressions, over what opens a level

record Opens (u : Under) : Type 0 where
  parens : Parses u.parens
  counted : Parses u.counted
  list : Parses u.list
  choices : Parses u.choices
  nots : Parses u.nots
  signed : Parses u.signed

number : Parses e.number
unfolding e.number
number = parses_then (one_of numerals) (λ t. parses_pure _)

literal : (text : Bytes) → Parses (e.literal text)
unfolding e.literal
literal text = parses_then (word k.Quoted) (λ t. parses_pure _)

reference : (text : Bytes) → Parses (e.reference text)
unfolding e.reference
reference text = parses_then (column text) (λ c. parses_pure _)

count : (u : Under) → Opens u → Parses (e.count u)
unfolding e.count
count u h = parses_then (word k.Count) (λ t. parses_then h.counted (λ x. parses_pure _))

aggregate : (u : Under) → Opens u → Parses (e.aggregate u)
unfolding e.aggregate
aggregate u h = parses_then (one_of aggregates) (λ t. parses_then h.parens (λ x. parses_pure _))

coalesce : (u : Under) → Opens u → Parses (e.coalesce u)
unfolding e.coalesce
coalesce u h = parses_then (word k.Coalesce) (λ t. parses_then h.choices (λ x. parses_pure _))

enclosed : (u : Under) → Opens u → Parses (e.enclosed u)
unfolding e.enclosed
enclosed u h = parses_then h.parens (λ x. parses_pure _)

divisor : Parses e.divisor
unfolding e.divisor
divisor = parses_either (of signs) (parses_then (one_of signs) (λ s. parses_then (word k.Digits) (λ n. parses_pure _))) (parses_then (word k.Digits) (λ n. parses_pure _))

polarity : Parses e.polarity
unfolding e.polarity
polarity = parses_either (is k.Not) (parses_then (word k.Not) (λ _. parses_pure _)) (parses_pure _)

nullity : (a : Expr) → Parses (e.nullity a)
unfolding e.nullity
nullity a = parses_then (word k.Is) (λ t. parses_then polarity (λ p. parses_then (word k.Null) (λ _. parses_pure _)))

over : (a : Expr) → Parses (e.over a)
unfolding e.over
over a = parses_then (word k.Slash) (λ t. parses_then divisor (λ v. parses_pure _))

operation : (kind : Kind) (o : BinaryOp) (q : Parser Expr) → Parses q → (a : Expr) → Parses (e.operation kind o q a)
unfolding e.operation
operation kind o q h a = parses_then (word kind) (λ t. parses_then h (λ b. parses_pure _))

module _ (m : Asked) (text : Bytes) (u : Under) (h : Opens u) where
  atom : Parses (e.atom m text u)
  unfolding e.atom
  atom =
      parses_either (of numerals) number
      (parses_either (is k.Quoted) (literal text)
      (parses_either (is k.Date) (date m text)
      (parses_either (is k.Name) (reference text)
      (parses_either (is k.Count) (count u h)
      (parses_either (of aggregates) (aggregate u h)
      (parses_either (is k.Coalesce) (coalesce u h)
      (enclosed u h)))))))

  factor : Parses (e.factor m text u)
  unfolding e.factor
  factor = parses_either (of signs) h.signed atom

  multiplied : (a : Expr) → Parses (e.multiplied m text u a)
  unfolding e.multiplied e.times
  multiplied a = parses_either (is k.Star) (parses_then (word k.Star) (λ t. parses_then factor (λ b. parses_pure _))) (over a)

  term : Parses (e.term m text u)
  unfolding e.term
  term = parses_then factor (parses_repeat (of multiplies) multiplied)

  added : (a : Expr) → Parses (e.added m text u a)
  unfolding e.added
  added a = parses_then (one_of signs) (λ s. parses_then term (λ b. parses_pure _))

  sum : Parses (e.sum m text u)
  unfolding e.sum
  sum = parses_then term (parses_repeat (of signs) added)

  compared : (a : Expr) → Parses (e.compared m text u a)
  unfolding e.compared
  compared a = parses_then (one_of compares) (λ t. parses_then sum (λ b. parses_pure _))

  between : (p : Polarity) (a : Expr) → Parses (e.between m text u p a)
  unfolding e.between
  between p a = parses_then (word k.Between) (λ t. parses_then sum (λ low. parses_then (word k.And) (λ _. parses_then sum (λ high. parses_pure _))))

  contained : (p : Polarity) (a : Expr) → Parses (e.contained u p a)
  unfolding e.contained
  contained p a = parses_then (word k.In) (λ t. parses_then h.list (λ xs. parses_pure _))

  ranged : (p : Polarity) (a : Expr) → Parses (e.ranged m text u p a)
  unfolding e.ranged
  ranged p a = parses_either (is k.Between) (between p a) (contained p a)

  negated : (a : Expr) → Parses (e.negated m text u a)
  unfolding e.negated
  negated a = parses_then (word k.Not) (λ _. ranged Negated a)

  predicate_tail : (a : Expr) → Parses (e.predicate_tail m text u a)
  unfolding e.predicate_tail
  predicate_tail a = parses_either (of compares) (compared a) (parses_either (is k.Not) (negated a) (parses_either (of ranges) (ranged Plain a) (parses_either (is k.Is) (nullity a) (parses_pure a))))

  neg : Parses (e.neg m text u)
  unfolding e.neg e.pred
  neg = parses_either (is k.Not) h.nots (parses_then sum predicate_tail)

  conj : Parses (e.conj m text u)
  unfolding e.conj
  conj = parses_then neg (parses_repeat (is k.And) (operation k.And op.And (e.neg m text u) neg))

  expr : Parses (e.expr m text u)
  unfolding e.expr
  expr = parses_then conj (parses_repeat (is k.Or) (operation k.Or op.Or (e.conj m text u) conj))

  parens : Parses (e.parens m text u)
  unfolding e.parens
  parens = parses_then (word k.OpenParen) (λ t. parses_then expr (λ a. parses_then (word k.CloseParen) (λ _. parses_pure _)))

  star_or_expr : Parses (e.star_or_expr m text u)
  unfolding e.star_or_expr
  star_or_expr = parses_either (is k.Star) (parses_then (word k.Star) (λ _. parses_pure None)) (parses_then expr (λ a. parses_pure _))

  counted : Parses (e.counted m text u)
  unfolding e.counted
  counted = parses_then (word k.OpenParen) (λ _. parses_then star_or_expr (λ x. parses_then (word k.CloseParen) (λ _. parses_pure x)))

  alternatives : Parses (e.alternatives m text u)
  unfolding e.alternatives
  alternatives = parses_then expr (λ a. parses_then (word k.Comma) (λ _. parses_then (series (e.expr m text u) expr) (λ xs. parses_pure _)))

  choices : Parses (e.choices m text u)
  unfolding e.choices
  choices = parses_then (word k.OpenParen) (λ _. parses_then alternatives (λ x. parses_then (word k.CloseParen) (λ _. parses_pure x)))

  listed : Parses (e.listed m text u)
  unfolding e.listed
  listed = parses_then (word k.OpenParen) (λ _. parses_then (series (e.sum m text u) sum) (λ xs. parses_then (word k.CloseParen) (λ _. parses_pure _)))

  nots : Parses (e.nots m text u)
  unfolding e.nots
  nots = parses_then (word k.Not) (λ t. parses_then neg (λ a. parses_pure _))

  signed : Parses (e.signed m text u)
  unfolding e.signed
  signed = parses_then (one_of signs) (λ s. parses_then atom (λ a. parses_pure _))

opening : {A : Type 0} {q : Parser A} → Parses q → Parses (e.opening q)
opening h = parses_either (is k.OpenParen) h (parses_refuse Unexpected)

under : (m : Asked) (text : Bytes) (n : ℕ) → Opens (e.under m text n)
unfolding e.under
under m text zero = record {
  parens = opening (parses_refuse TooDeep);
  counted = opening (parses_refuse TooDeep);
  list = opening (parses_refuse TooDeep);
  choices = opening (parses_refuse TooDeep);
  nots = parses_refuse TooDeep;
  signed = parses_refuse TooDeep;
}
under m text (suc n) =
    let u = e.under m text n in
    let h = under m text n in
    record {
      parens = opening (parens m text u h);
      counted = opening (counted m text u h);
      list = opening (listed m text u h);
      choices = opening (choices m text u h);
      nots = nots m text u h;
      signed = signed m text u h;
    }

-- ---- clauses

named : (text : Bytes) → Parses (c.named text)
unfolding c.named
named text = parses_then (word k.Name) (λ n. parses_pure _)

alias : (text : Bytes) → Parses (c.alias text)
unfolding c.alias
alias text = parses_either (is k.As) (parses_then (word k.As) (λ _. named text)) (parses_either (is k.Name) (named text) (parses_pure None))

item : (text : Bytes) (q : Parser Expr) → Parses q → Parses (c.item text q)
unfolding c.item
item text q h = parses_then h (λ a. parses_then (alias text) (λ x. parses_pure _))

list : (text : Bytes) (q : Parser Expr) → Parses q → Parses (c.list text q)
unfolding c.list
list text q h = parses_either (is k.Star)
    (parses_then (word k.Star) (λ t. parses_pure _))
    (parses_then (series (c.item text q) (item text q h)) (λ xs. parses_pure _))

table : (text : Bytes) → Parses (c.table text)
unfolding c.table
table text = parses_then (word k.Name) (λ n. parses_then (alias text) (λ a. parses_pure _))

by_comma : (text : Bytes) → Parses (c.by_comma text)
unfolding c.by_comma
by_comma text = parses_then (word k.Comma) (λ t. parses_then (table text) (λ x. parses_pure _))

by_cross : (text : Bytes) → Parses (c.by_cross text)
unfolding c.by_cross
by_cross text = parses_then (word k.Cross) (λ t. parses_then (word k.Join) (λ _. parses_then (table text) (λ x. parses_pure _)))

on : (text : Bytes) (t : Token) → Parses (c.on text t)
unfolding c.on
on text t =
    parses_then (table text) (λ x. parses_then (word k.On) (λ _. parses_then (column text) (λ a. parses_then (word k.Equal) (λ q. parses_then (column text) (λ b. parses_pure _)))))

by_key : (text : Bytes) → Parses (c.by_key text)
unfolding c.by_key
by_key text = parses_either (is k.Inner)
    (parses_then (word k.Inner) (λ t. parses_then (word k.Join) (λ _. on text t)))
    (parses_then (word k.Join) (on text))

join : (text : Bytes) (js : List Join) → Parses (c.join text js)
unfolding c.join c.added_table
join text js = parses_then (parses_either (is k.Comma) (by_comma text) (parses_either (is k.Cross) (by_cross text) (by_key text))) (λ j. parses_pure _)

source : (text : Bytes) → Parses (c.source text)
unfolding c.source
source text = parses_then (table text) (λ t. parses_then (parses_repeat (of joins) (join text) []) (λ js. parses_pure _))

condition : (kind : Kind) (q : Parser Expr) → Parses q → Parses (c.condition kind q)
unfolding c.condition
condition kind q h = parses_either (is kind) (parses_then (word kind) (λ _. parses_then h (λ a. parses_pure (Some a)))) (parses_pure None)

groups : (text : Bytes) (q : Parser Expr) → Parses q → Parses (c.groups text q)
unfolding c.groups c.by_groups
groups text q h = parses_either (is k.Group)
    (parses_then (word k.Group) (λ _. parses_then (word k.By) (λ _. parses_then (series (e.column text) (column text)) (λ cs. parses_then (condition k.Having q h) (λ x. parses_pure _)))))
    (parses_pure _)

direction : Parses c.direction
unfolding c.direction
direction = parses_either (is k.Asc) (parses_then (word k.Asc) (λ _. parses_pure _)) (parses_either (is k.Desc) (parses_then (word k.Desc) (λ _. parses_pure _)) (parses_pure _))

sort_by : (text : Bytes) → Parses (c.sort_by text)
unfolding c.sort_by
sort_by text = parses_either (is k.Digits) (parses_then (word k.Digits) (λ n. parses_pure _)) (parses_then (column text) (λ x. parses_pure _))

key : (text : Bytes) → Parses (c.key text)
unfolding c.key
key text = parses_then (sort_by text) (λ b. parses_then direction (λ x. parses_pure _))

order : (text : Bytes) → Parses (c.order text)
unfolding c.order
order text = parses_either (is k.Order) (parses_then (word k.Order) (λ _. parses_then (word k.By) (λ _. series (c.key text) (key text)))) (parses_pure [])

distinct : Parses c.distinct
unfolding c.distinct
distinct = parses_either (is k.Distinct) (parses_then (word k.Distinct) (λ t. parses_pure _)) (parses_pure None)

closed : (x : Query) → Parses (c.closed x)
unfolding c.closed
closed x = parses_either (is k.Semicolon) (parses_then (word k.Semicolon) (λ _. parses_pure x)) (parses_pure x)

query_over : (text : Bytes) (q : Parser Expr) → Parses q → Parses (c.query_over text q)
unfolding c.query_over
query_over text q h =
    parses_then (word k.Select) (λ s.
    parses_then distinct (λ x.
    parses_then (list text q h) (λ l.
    parses_then (word k.From) (λ _.
    parses_then (source text) (λ t.
    parses_then (condition k.Where q h) (λ w.
    parses_then (groups text q h) (λ g.
    parses_then (order text) (λ o.
    closed _))))))))

pub query : (m : Asked) (text : Bytes) (n : ℕ) → Parses (c.query m text n)
query m text n = query_over text (e.expr m text (e.under m text n)) (expr m text (e.under m text n) (under m text n))
