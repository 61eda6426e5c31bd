-- The grammar of expressions, rule by rule as parsers that decide by the next token.
use Rattle.std.specs.Prelude.{ℕ, zero, suc, Bool, ◌&&◌, if◌then◌else◌, length, List, [], ◌∷◌, ◌++◌, Option, Some, None, ℤ}
use Rattle.phrases.specs.Parsers as p
use Rattle.phrases.specs.declared.refusal.ReadError.{ReadError}
use Rattle.phrases.specs.declared.refusal.ReadError.TheVariants.{Refused}
use Rattle.phrases.specs.Parsers.{next, pure, refuse, either, repeat, ◌>>=◌, ◌>>◌}
use Rattle.sql_read.specs.declared.kind.Kind.{Kind}
use Rattle.sql_read.specs.declared.kind.Kind.TheVariants as k
use Rattle.sql_read.specs.declared.token_list.Token.{Token}
use Rattle.sql_read.specs.Lexis.{Bytes}
use Rattle.sql_read.specs.Schema.{is}
use Rattle.query_read.specs.declared.fault.Fault.{Fault}
use Rattle.query_read.specs.declared.fault.Fault.TheVariants.{Unexpected, TooDeep, NoDate, NoSpan, OutOfRange}
use Rattle.query_trees.specs.declared.expr.BinaryOp.{BinaryOp}
use Rattle.query_trees.specs.declared.expr.BinaryOp.TheVariants as op
use Rattle.query_trees.specs.declared.expr.Polarity.{Polarity}
use Rattle.query_trees.specs.declared.expr.Polarity.TheVariants.{Plain, Negated}
use Rattle.query_trees.specs.declared.expr.ColumnName.{ColumnName}
use Rattle.query_trees.specs.declared.expr.Divisor.{Divisor}
use Rattle.query_trees.specs.declared.expr.Expr.{Expr}
use Rattle.query_trees.specs.declared.expr.Form.TheVariants as f
use Rattle.query_read.specs.declared.enclosing.Enclosure.{Enclosure}
use Rattle.query_read.specs.declared.enclosing.Choices.{Choices}
use Rattle.query_read.specs.Asked.{Asked}
use Rattle.query_read.specs.Literals.{content}
use Rattle.query_read.specs.Days.{day_at, span_at, moved, no_date, no_span, leaves}
use Rattle.query_read.specs.Classes.{multiplies, ranges}
use Rattle.query_trees.specs.Nodes.{node}
use Rattle.query_read.specs.Nodes.{signs, steps, compares, numerals, aggregates, of, sign_of, sum_op, comparison, aggregate_of, numbered, binary, divisor_of, divided, counted_node, choice, chosen, enclosure, bare, qualified}

abbrev pub Parser : Type 0 → Type 0
Parser A = p.Parser Token Fault A

abbrev pub expect : Kind → Parser Token
expect kind = p.expect Unexpected (is kind)

abbrev pub expect_of : (Kind → Bool) → Parser Token
expect_of test = p.expect Unexpected (of test)

-- one token that passes the test; a bad one has a fault of its own
unfoldable pub sound : Fault → (Token → Bool) → (Token → Bool) → Parser Token
sound fault test bad = either (λ t. test t && bad t) (refuse fault) (p.expect Unexpected test)

unfoldable pub another : {A : Type 0} → Parser A → List A → Parser (List A)
another q xs = do
  expect k.Comma
  x ← q
  pure (xs ++ x ∷ [])

abbrev pub more : {A : Type 0} → Parser A → List A → Parser (List A)
more q = repeat (is k.Comma) (another q)

unfoldable pub series : {A : Type 0} → Parser A → Parser (List A)
series q = do
  x ← q
  more q (x ∷ [])

unfoldable pub column : Bytes → Parser ColumnName
column text = do
  n ← expect k.Name
  either (is k.Dot) (do expect k.Dot; c ← expect k.Name; pure (qualified text n c)) (pure (bare text n))

-- the day of a DATE's text, and the days of an INTERVAL's
unfoldable pub date_text : Asked → Bytes → Parser ℤ
date_text m text = do
  t ← sound NoDate (is k.Quoted) (no_date m text)
  pure (day_at text t)

unfoldable pub span_text : Asked → Bytes → Parser ℤ
span_text m text = do
  t ← sound NoSpan (is k.Quoted) (no_span m text)
  pure (span_at text t)

unfoldable pub last_day : Asked → ℤ → Parser ℤ
last_day m day = do
  sound OutOfRange (is k.Day) (leaves m day)
  pure day

unfoldable pub step : Asked → Bytes → ℤ → Parser ℤ
step m text day = do
  s ← expect_of steps
  expect k.Interval
  days ← span_text m text
  last_day m (moved (sign_of s.kind) days day)

abbrev pub more_steps : Asked → Bytes → ℤ → Parser ℤ
more_steps m text = repeat (of steps) (step m text)

unfoldable pub date : Asked → Bytes → Parser Expr
date m text = do
  t ← expect k.Date
  first ← date_text m text
  day ← more_steps m text first
  pure (node t.at (f.Date day))

-- what opens a level, in so many levels more
pub record Under : Type 0 where
  pub parens : Parser Enclosure
  pub counted : Parser (Option Expr)
  pub list : Parser (List Expr)
  pub choices : Parser Choices
  pub nots : Parser Expr
  pub signed : Parser Expr

unfoldable pub number : Parser Expr
number = do t ← expect_of numerals; pure (numbered t)

unfoldable pub literal : Bytes → Parser Expr
literal text = do t ← expect k.Quoted; pure (node t.at (f.Text (content text t)))

unfoldable pub reference : Bytes → Parser Expr
reference text = do c ← column text; pure (node c.at (f.Column c))

unfoldable pub count : Under → Parser Expr
count u = do t ← expect k.Count; x ← u.counted; pure (counted_node t x)

unfoldable pub aggregate : Under → Parser Expr
aggregate u = do t ← expect_of aggregates; x ← u.parens; pure (node t.at (f.Aggregate (aggregate_of t.kind) x.value))

unfoldable pub coalesce : Under → Parser Expr
coalesce u = do t ← expect k.Coalesce; x ← u.choices; pure (chosen t x)

unfoldable pub enclosed : Under → Parser Expr
enclosed u = do x ← u.parens; pure (node x.at (f.Enclosed x.value))

-- ["+" | "-"] integer
unfoldable pub divisor : Parser Divisor
divisor =
    either (of signs) (do s ← expect_of signs; n ← expect k.Digits; pure (divisor_of (Some (sign_of s.kind)) n))
    (do n ← expect k.Digits; pure (divisor_of None n))

unfoldable pub over : Expr → Parser Expr
over a = do t ← expect k.Slash; v ← divisor; pure (divided t.at a v)

unfoldable pub polarity : Parser Polarity
polarity = either (is k.Not) (do expect k.Not; pure Negated) (pure Plain)

unfoldable pub nullity : Expr → Parser Expr
nullity a = do t ← expect k.Is; p ← polarity; expect k.Null; pure (node a.at (f.IsNull p t.at a))

unfoldable pub operation : Kind → BinaryOp → Parser Expr → Expr → Parser Expr
operation kind o q a = do t ← expect kind; b ← q; pure (binary o t.at a b)

unfoldable pub atom : Asked → Bytes → Under → Parser Expr
atom m text u =
    either (of numerals) number
    (either (is k.Quoted) (literal text)
    (either (is k.Date) (date m text)
    (either (is k.Name) (reference text)
    (either (is k.Count) (count u)
    (either (of aggregates) (aggregate u)
    (either (is k.Coalesce) (coalesce u)
    (enclosed u)))))))

unfoldable pub factor : Asked → Bytes → Under → Parser Expr
factor m text u = either (of signs) u.signed (atom m text u)

unfoldable pub times : Asked → Bytes → Under → Expr → Parser Expr
times m text u a = do t ← expect k.Star; b ← factor m text u; pure (binary op.Multiply t.at a b)

unfoldable pub multiplied : Asked → Bytes → Under → Expr → Parser Expr
multiplied m text u a = either (is k.Star) (times m text u a) (over a)

unfoldable pub term : Asked → Bytes → Under → Parser Expr
term m text u = factor m text u >>= repeat (of multiplies) (multiplied m text u)

unfoldable pub added : Asked → Bytes → Under → Expr → Parser Expr
added m text u a = do s ← expect_of signs; b ← term m text u; pure (binary (sum_op s.kind) s.at a b)

unfoldable pub sum : Asked → Bytes → Under → Parser Expr
sum m text u = term m text u >>= repeat (of signs) (added m text u)

unfoldable pub compared : Asked → Bytes → Under → Expr → Parser Expr
compared m text u a = do t ← expect_of compares; b ← sum m text u; pure (binary (comparison t.kind) t.at a b)

unfoldable pub between : Asked → Bytes → Under → Polarity → Expr → Parser Expr
between m text u p a = do
  t ← expect k.Between
  low ← sum m text u
  expect k.And
  high ← sum m text u
  pure (node a.at (f.Between p t.at a low high))

unfoldable pub contained : Under → Polarity → Expr → Parser Expr
contained u p a = do
  t ← expect k.In
  xs ← u.list
  pure (node a.at (f.In p t.at a xs))

unfoldable pub ranged : Asked → Bytes → Under → Polarity → Expr → Parser Expr
ranged m text u p a = either (is k.Between) (between m text u p a) (contained u p a)

unfoldable pub negated : Asked → Bytes → Under → Expr → Parser Expr
negated m text u a = expect k.Not >> ranged m text u Negated a

unfoldable pub predicate_tail : Asked → Bytes → Under → Expr → Parser Expr
predicate_tail m text u a =
    either (of compares) (compared m text u a)
    (either (is k.Not) (negated m text u a)
    (either (of ranges) (ranged m text u Plain a)
    (either (is k.Is) (nullity a)
    (pure a))))

unfoldable pub pred : Asked → Bytes → Under → Parser Expr
pred m text u = sum m text u >>= predicate_tail m text u

unfoldable pub neg : Asked → Bytes → Under → Parser Expr
neg m text u = either (is k.Not) u.nots (pred m text u)

unfoldable pub conj : Asked → Bytes → Under → Parser Expr
conj m text u = neg m text u >>= repeat (is k.And) (operation k.And op.And (neg m text u))

unfoldable pub expr : Asked → Bytes → Under → Parser Expr
expr m text u = conj m text u >>= repeat (is k.Or) (operation k.Or op.Or (conj m text u))

-- the same one level deeper
unfoldable pub parens : Asked → Bytes → Under → Parser Enclosure
parens m text u = do t ← expect k.OpenParen; a ← expr m text u; expect k.CloseParen; pure (enclosure t a)

unfoldable pub listed : Asked → Bytes → Under → Parser (List Expr)
listed m text u = do expect k.OpenParen; xs ← series (sum m text u); expect k.CloseParen; pure xs

unfoldable pub star_or_expr : Asked → Bytes → Under → Parser (Option Expr)
star_or_expr m text u = either (is k.Star) (do expect k.Star; pure None) (do a ← expr m text u; pure (Some a))

unfoldable pub counted : Asked → Bytes → Under → Parser (Option Expr)
counted m text u = do expect k.OpenParen; x ← star_or_expr m text u; expect k.CloseParen; pure x

unfoldable pub alternatives : Asked → Bytes → Under → Parser Choices
alternatives m text u = do a ← expr m text u; expect k.Comma; xs ← series (expr m text u); pure (choice a xs)

unfoldable pub choices : Asked → Bytes → Under → Parser Choices
choices m text u = do expect k.OpenParen; x ← alternatives m text u; expect k.CloseParen; pure x

unfoldable pub nots : Asked → Bytes → Under → Parser Expr
nots m text u = do t ← expect k.Not; a ← neg m text u; pure (node t.at (f.Not a))

unfoldable pub signed : Asked → Bytes → Under → Parser Expr
signed m text u = do s ← expect_of signs; a ← atom m text u; pure (node s.at (f.Signed (sign_of s.kind) a))

-- a parenthesis and what it opens
abbrev pub opening : {A : Type 0} → Parser A → Parser A
opening q = either (is k.OpenParen) q (refuse Unexpected)

-- what is wrong where no parenthesis may be opened
abbrev pub shut : List Token → ReadError Fault
shut ts = if next (is k.OpenParen) ts then Refused TooDeep (length ts) else Refused Unexpected (length ts)

-- where no level may be opened
abbrev pub nothing_under : Under
nothing_under = record {
  parens = opening (refuse TooDeep);
  counted = opening (refuse TooDeep);
  list = opening (refuse TooDeep);
  choices = opening (refuse TooDeep);
  nots = refuse TooDeep;
  signed = refuse TooDeep;
}

abbrev pub one_under : Asked → Bytes → Under → Under
one_under m text u = record {
  parens = opening (parens m text u);
  counted = opening (counted m text u);
  list = opening (listed m text u);
  choices = opening (choices m text u);
  nots = nots m text u;
  signed = signed m text u;
}

-- what may open so many levels
unfoldable pub under : Asked → Bytes → ℕ → Under
under m text zero = nothing_under
under m text (suc n) = one_under m text (under m text n)
