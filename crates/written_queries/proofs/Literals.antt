-- The literals of an expression that is read are within bounds.
use Rattle.std.proofs.Common.{◌≡◌, ℕ, ℤ, zero, suc, ◌≤◌, true, Option, Some, None}
use Rattle.std.specs.List.{All}
use Rattle.std.proofs.lemmas.Bool.{not-false}
use Rattle.phrases.specs.Parsers.{◌>>=◌, pure}
use Rattle.sql_read.specs.declared.kind.Kind.{Kind}
use Rattle.sql_read.specs.declared.kind.Kind.TheVariants as k
use Rattle.sql_read.specs.declared.token_list.Token.{Token}
use Rattle.sql_read.specs.Lexis.{Bytes, max_integer}
use Rattle.sql_read.specs.Schema.{is}
use Rattle.civil_days.specs.Dates.{in_range}
use Rattle.query_trees.specs.declared.expr.AggregateKind.TheVariants.{Count}
use Rattle.query_trees.specs.declared.expr.BinaryOp.{BinaryOp}
use Rattle.query_trees.specs.declared.expr.BinaryOp.TheVariants as op
use Rattle.query_trees.specs.declared.expr.Divisor.{Divisor}
use Rattle.query_trees.specs.declared.expr.Polarity.{Polarity}
use Rattle.query_trees.specs.declared.expr.Polarity.TheVariants.{Plain, Negated}
use Rattle.query_trees.specs.declared.expr.Expr.{Expr}
use Rattle.query_trees.specs.declared.expr.Form.TheVariants as f
use Rattle.query_trees.specs.Nodes.{node}
use Rattle.query_read.specs.declared.enclosing.Choices.{Choices}
use Rattle.query_read.specs.declared.enclosing.Enclosure.{Enclosure}
use Rattle.query_read.specs.declared.fault.Fault.TheVariants.{Unexpected, TooDeep, NoDate, NoSpan, OutOfRange}
use Rattle.query_read.specs.Asked.{all}
use Rattle.query_read.specs.Classes.{multiplies, ranges}
use Rattle.query_read.specs.Days.{day_at, span_at, moved, no_date, no_span, leaves}
use Rattle.query_read.specs.Literals.{content, inner}
use Rattle.query_read.specs.Nodes.{signs, steps, compares, numerals, aggregates, of, sign_of, sum_op, comparison, aggregate_of, numbered, binary, divisor_of, counted_node, choice, chosen, enclosure, bare, qualified}
use Rattle.query_read.specs.ExpressionParsers as e
use Rattle.query_read.specs.ExpressionParsers.{Parser, Under}
use Rattle.written_queries.proofs.BoundedForms.{Holds, holds_Number, holds_Text, holds_Date, holds_Column, holds_CountAll, holds_Aggregate, holds_Enclosed, holds_Signed, holds_Not, holds_Binary, holds_Divide, holds_Between, holds_In, holds_IsNull, holds_Coalesce}
use Rattle.written_queries.proofs.Days.{day_ranged}
use Rattle.written_queries.proofs.Keeping.{Keeps, Any, keeps_token, keeps_sound, keeps_value, keeps_refused, keeps_both, past, past_word, keeps_either, keeps_repeated, keeps_series, any_value}

-- ---- numbers, texts and columns

keeps_number : Keeps Holds e.number
unfolding e.number
keeps_number = keeps_both (e.expect_of numerals) (keeps_token Unexpected (of numerals)) (λ t h. keeps_value Holds (numbered t) (holds_Number t.at t.value t.scale h.value h.scale))

keeps_literal : (text : Bytes) → Keeps Holds (e.literal text)
unfolding e.literal
keeps_literal text = past_word Unexpected (is k.Quoted) (λ t. keeps_value Holds (node t.at (f.Text (content text t))) (holds_Text t.at (content text t)))

pub any_column : (text : Bytes) → Keeps Any (e.column text)
unfolding e.column
any_column text =
    past_word Unexpected (is k.Name) (λ n. keeps_either (is k.Dot)
    (past_word Unexpected (is k.Dot) (λ _. past_word Unexpected (is k.Name) (λ c. any_value (qualified text n c))))
    (any_value (bare text n)))

keeps_reference : (text : Bytes) → Keeps Holds (e.reference text)
unfolding e.reference
keeps_reference text = past (e.column text) (any_column text) (λ c. keeps_value Holds (node c.at (f.Column c)) (holds_Column c.at c))

-- ---- dates

abbrev IsDay : ℤ → Type 0
IsDay day = in_range day ≡ true

keeps_date_text : (text : Bytes) → Keeps IsDay (e.date_text all text)
unfolding e.date_text
keeps_date_text text = keeps_both (e.sound NoDate (is k.Quoted) (no_date all text)) (keeps_sound NoDate (is k.Quoted) (no_date all text)) (λ t h. keeps_value IsDay (day_at text t) (day_ranged (inner text t) h))

any_span : (text : Bytes) → Keeps Any (e.span_text all text)
unfolding e.span_text
any_span text = keeps_both (e.sound NoSpan (is k.Quoted) (no_span all text)) (keeps_sound NoSpan (is k.Quoted) (no_span all text)) (λ t h. any_value (span_at text t))

keeps_last_day : (day : ℤ) → Keeps IsDay (e.last_day all day)
unfolding e.last_day
keeps_last_day day = keeps_both (e.sound OutOfRange (is k.Day) (leaves all day)) (keeps_sound OutOfRange (is k.Day) (leaves all day)) (λ t h. keeps_value IsDay day (not-false (in_range day) h))

keeps_step : (text : Bytes) (day : ℤ) → Keeps IsDay (e.step all text day)
unfolding e.step
keeps_step text day =
    past_word Unexpected (of steps) (λ s. past_word Unexpected (is k.Interval) (λ _. past (e.span_text all text) (any_span text) (λ days. keeps_last_day (moved (sign_of s.kind) days day))))

keeps_date : (text : Bytes) → Keeps Holds (e.date all text)
unfolding e.date
keeps_date text =
    past_word Unexpected (is k.Date) (λ t. keeps_both (e.date_text all text) (keeps_date_text text) (λ first h.
    keeps_both (e.more_steps all text first) (keeps_repeated IsDay (of steps) (e.step all text) (λ day i. keeps_step text day) first h) (λ day i.
    keeps_value Holds (node t.at (f.Date day)) (holds_Date t.at day i))))

-- ---- what opens a level

abbrev Inside : Enclosure → Type 0
Inside x = Holds x.value

abbrev Counted : Option Expr → Type 0
Counted None = Unit {0}
Counted (Some a) = Holds a

abbrev Chosen : Choices → Type 0
Chosen x = Holds x.first × All Holds x.others

record Kept (u : Under) : Type 0 where
  parens : Keeps Inside u.parens
  counted : Keeps Counted u.counted
  list : Keeps (All Holds) u.list
  choices : Keeps Chosen u.choices
  nots : Keeps Holds u.nots
  signed : Keeps Holds u.signed

module _ (u : Under) (v : Kept u) where
  count_holds : (t : Token) (x : Option Expr) → Counted x → Holds (counted_node t x)
  count_holds t None h = holds_CountAll t.at
  count_holds t (Some a) h = holds_Aggregate t.at Count a h

  keeps_count : Keeps Holds (e.count u)
  unfolding e.count
  keeps_count = past_word Unexpected (is k.Count) (λ t. keeps_both u.counted v.counted (λ x h. keeps_value Holds (counted_node t x) (count_holds t x h)))

  keeps_aggregate : Keeps Holds (e.aggregate u)
  unfolding e.aggregate
  keeps_aggregate = past_word Unexpected (of aggregates) (λ t. keeps_both u.parens v.parens (λ x h. keeps_value Holds (node t.at (f.Aggregate (aggregate_of t.kind) x.value)) (holds_Aggregate t.at (aggregate_of t.kind) x.value h)))

  keeps_coalesce : Keeps Holds (e.coalesce u)
  unfolding e.coalesce
  keeps_coalesce = past_word Unexpected (is k.Coalesce) (λ t. keeps_both u.choices v.choices (λ x h. keeps_value Holds (chosen t x) (holds_Coalesce t.at x.first x.others h.0 h.1)))

  keeps_enclosed : Keeps Holds (e.enclosed u)
  unfolding e.enclosed
  keeps_enclosed = keeps_both u.parens v.parens (λ x h. keeps_value Holds (node x.at (f.Enclosed x.value)) (holds_Enclosed x.at x.value h))

-- ---- operators

abbrev Divides : Divisor → Type 0
Divides v = v.value ≤ max_integer

keeps_divisor : Keeps Divides e.divisor
unfolding e.divisor
keeps_divisor = keeps_either (of signs)
    (past_word Unexpected (of signs) (λ s. keeps_both (e.expect k.Digits) (keeps_token Unexpected (is k.Digits)) (λ n h. keeps_value Divides (divisor_of (Some (sign_of s.kind)) n) h.value)))
    (keeps_both (e.expect k.Digits) (keeps_token Unexpected (is k.Digits)) (λ n h. keeps_value Divides (divisor_of None n) h.value))

keeps_over : (a : Expr) → Holds a → Keeps Holds (e.over a)
unfolding e.over
keeps_over a h = past_word Unexpected (is k.Slash) (λ t. keeps_both e.divisor keeps_divisor (λ v i. keeps_value Holds (node a.at (f.Divide t.at a v)) (holds_Divide a.at t.at a v h i)))

any_polarity : Keeps Any e.polarity
unfolding e.polarity
any_polarity = keeps_either (is k.Not) (past_word Unexpected (is k.Not) (λ _. any_value Negated)) (any_value Plain)

keeps_nullity : (a : Expr) → Holds a → Keeps Holds (e.nullity a)
unfolding e.nullity
keeps_nullity a h =
    past_word Unexpected (is k.Is) (λ t. past e.polarity any_polarity (λ p. past_word Unexpected (is k.Null) (λ _. keeps_value Holds (node a.at (f.IsNull p t.at a)) (holds_IsNull a.at p t.at a h))))

keeps_binary : (o : BinaryOp) (place : ℕ) (a : Expr) (q : Parser Expr) → Holds a → Keeps Holds q → Keeps Holds (q >>= λ b. pure (binary o place a b))
keeps_binary o place a q h l = keeps_both q l (λ b i. keeps_value Holds (binary o place a b) (holds_Binary a.at o place a b h i))

keeps_operation : (kind : Kind) (o : BinaryOp) (q : Parser Expr) → Keeps Holds q → (a : Expr) → Holds a → Keeps Holds (e.operation kind o q a)
unfolding e.operation
keeps_operation kind o q l a h = past_word Unexpected (is kind) (λ t. keeps_binary o t.at a q h l)

-- ---- expressions, over what may be opened in them

module _ (text : Bytes) (u : Under) (v : Kept u) where
  keeps_atom : Keeps Holds (e.atom all text u)
  unfolding e.atom
  keeps_atom =
      keeps_either (of numerals) keeps_number
      (keeps_either (is k.Quoted) (keeps_literal text)
      (keeps_either (is k.Date) (keeps_date text)
      (keeps_either (is k.Name) (keeps_reference text)
      (keeps_either (is k.Count) (keeps_count u v)
      (keeps_either (of aggregates) (keeps_aggregate u v)
      (keeps_either (is k.Coalesce) (keeps_coalesce u v) (keeps_enclosed u v)))))))

  keeps_factor : Keeps Holds (e.factor all text u)
  unfolding e.factor
  keeps_factor = keeps_either (of signs) v.signed keeps_atom

  keeps_multiplied : (a : Expr) → Holds a → Keeps Holds (e.multiplied all text u a)
  unfolding e.multiplied e.times
  keeps_multiplied a h = keeps_either (is k.Star) (past_word Unexpected (is k.Star) (λ t. keeps_binary op.Multiply t.at a (e.factor all text u) h keeps_factor)) (keeps_over a h)

  keeps_term : Keeps Holds (e.term all text u)
  unfolding e.term
  keeps_term = keeps_both (e.factor all text u) keeps_factor (λ a h. keeps_repeated Holds (of multiplies) (e.multiplied all text u) keeps_multiplied a h)

  keeps_added : (a : Expr) → Holds a → Keeps Holds (e.added all text u a)
  unfolding e.added
  keeps_added a h = past_word Unexpected (of signs) (λ s. keeps_binary (sum_op s.kind) s.at a (e.term all text u) h keeps_term)

  keeps_sum : Keeps Holds (e.sum all text u)
  unfolding e.sum
  keeps_sum = keeps_both (e.term all text u) keeps_term (λ a h. keeps_repeated Holds (of signs) (e.added all text u) keeps_added a h)

  keeps_compared : (a : Expr) → Holds a → Keeps Holds (e.compared all text u a)
  unfolding e.compared
  keeps_compared a h = past_word Unexpected (of compares) (λ t. keeps_binary (comparison t.kind) t.at a (e.sum all text u) h keeps_sum)

  keeps_between : (p : Polarity) (a : Expr) → Holds a → Keeps Holds (e.between all text u p a)
  unfolding e.between
  keeps_between p a h =
      past_word Unexpected (is k.Between) (λ t. keeps_both (e.sum all text u) keeps_sum (λ low i.
      past_word Unexpected (is k.And) (λ _. keeps_both (e.sum all text u) keeps_sum (λ high j.
      keeps_value Holds (node a.at (f.Between p t.at a low high)) (holds_Between a.at p t.at a low high h i j)))))

  keeps_contained : (p : Polarity) (a : Expr) → Holds a → Keeps Holds (e.contained u p a)
  unfolding e.contained
  keeps_contained p a h = past_word Unexpected (is k.In) (λ t. keeps_both u.list v.list (λ xs i. keeps_value Holds (node a.at (f.In p t.at a xs)) (holds_In a.at p t.at a xs h i)))

  keeps_ranged : (p : Polarity) (a : Expr) → Holds a → Keeps Holds (e.ranged all text u p a)
  unfolding e.ranged
  keeps_ranged p a h = keeps_either (is k.Between) (keeps_between p a h) (keeps_contained p a h)

  keeps_negated : (a : Expr) → Holds a → Keeps Holds (e.negated all text u a)
  unfolding e.negated
  keeps_negated a h = past_word Unexpected (is k.Not) (λ _. keeps_ranged Negated a h)

  keeps_tail : (a : Expr) → Holds a → Keeps Holds (e.predicate_tail all text u a)
  unfolding e.predicate_tail
  keeps_tail a h =
      keeps_either (of compares) (keeps_compared a h)
      (keeps_either (is k.Not) (keeps_negated a h)
      (keeps_either (of ranges) (keeps_ranged Plain a h)
      (keeps_either (is k.Is) (keeps_nullity a h) (keeps_value Holds a h))))

  keeps_neg : Keeps Holds (e.neg all text u)
  unfolding e.neg e.pred
  keeps_neg = keeps_either (is k.Not) v.nots (keeps_both (e.sum all text u) keeps_sum keeps_tail)

  keeps_conj : Keeps Holds (e.conj all text u)
  unfolding e.conj
  keeps_conj = keeps_both (e.neg all text u) keeps_neg (λ a h. keeps_repeated Holds (is k.And) (e.operation k.And op.And (e.neg all text u)) (keeps_operation k.And op.And (e.neg all text u) keeps_neg) a h)

  keeps_expr : Keeps Holds (e.expr all text u)
  unfolding e.expr
  keeps_expr = keeps_both (e.conj all text u) keeps_conj (λ a h. keeps_repeated Holds (is k.Or) (e.operation k.Or op.Or (e.conj all text u)) (keeps_operation k.Or op.Or (e.conj all text u) keeps_conj) a h)

  -- ---- one level deeper

  keeps_parens : Keeps Inside (e.parens all text u)
  unfolding e.parens
  keeps_parens = past_word Unexpected (is k.OpenParen) (λ t. keeps_both (e.expr all text u) keeps_expr (λ a h. past_word Unexpected (is k.CloseParen) (λ _. keeps_value Inside (enclosure t a) h)))

  keeps_star : Keeps Counted (e.star_or_expr all text u)
  unfolding e.star_or_expr
  keeps_star = keeps_either (is k.Star) (past_word Unexpected (is k.Star) (λ _. keeps_value Counted None tt)) (keeps_both (e.expr all text u) keeps_expr (λ a h. keeps_value Counted (Some a) h))

  keeps_counted : Keeps Counted (e.counted all text u)
  unfolding e.counted
  keeps_counted = past_word Unexpected (is k.OpenParen) (λ _. keeps_both (e.star_or_expr all text u) keeps_star (λ x h. past_word Unexpected (is k.CloseParen) (λ _. keeps_value Counted x h)))

  keeps_listed : Keeps (All Holds) (e.listed all text u)
  unfolding e.listed
  keeps_listed =
      past_word Unexpected (is k.OpenParen) (λ _. keeps_both (e.series (e.sum all text u)) (keeps_series Holds (e.sum all text u) keeps_sum) (λ xs h.
      past_word Unexpected (is k.CloseParen) (λ _. keeps_value (All Holds) xs h)))

  keeps_alternatives : Keeps Chosen (e.alternatives all text u)
  unfolding e.alternatives
  keeps_alternatives =
      keeps_both (e.expr all text u) keeps_expr (λ a h. past_word Unexpected (is k.Comma) (λ _.
      keeps_both (e.series (e.expr all text u)) (keeps_series Holds (e.expr all text u) keeps_expr) (λ xs i. keeps_value Chosen (choice a xs) (h, i))))

  keeps_choices : Keeps Chosen (e.choices all text u)
  unfolding e.choices
  keeps_choices = past_word Unexpected (is k.OpenParen) (λ _. keeps_both (e.alternatives all text u) keeps_alternatives (λ x h. past_word Unexpected (is k.CloseParen) (λ _. keeps_value Chosen x h)))

  keeps_nots : Keeps Holds (e.nots all text u)
  unfolding e.nots
  keeps_nots = past_word Unexpected (is k.Not) (λ t. keeps_both (e.neg all text u) keeps_neg (λ a h. keeps_value Holds (node t.at (f.Not a)) (holds_Not t.at a h)))

  keeps_signed : Keeps Holds (e.signed all text u)
  unfolding e.signed
  keeps_signed = past_word Unexpected (of signs) (λ s. keeps_both (e.atom all text u) keeps_atom (λ a h. keeps_value Holds (node s.at (f.Signed (sign_of s.kind) a)) (holds_Signed s.at (sign_of s.kind) a h)))

keeps_opening : {A : Type 0} (P : A → Type 0) (q : Parser A) → Keeps P q → Keeps P (e.opening q)
keeps_opening P q l = keeps_either (is k.OpenParen) l (keeps_refused P Unexpected)

kept_under : (text : Bytes) (n : ℕ) → Kept (e.under all text n)
unfolding e.under
kept_under text zero = record {
  parens = keeps_opening Inside _ (keeps_refused Inside TooDeep);
  counted = keeps_opening Counted _ (keeps_refused Counted TooDeep);
  list = keeps_opening (All Holds) _ (keeps_refused (All Holds) TooDeep);
  choices = keeps_opening Chosen _ (keeps_refused Chosen TooDeep);
  nots = keeps_refused Holds TooDeep;
  signed = keeps_refused Holds TooDeep;
}
kept_under text (suc n) =
    let u = e.under all text n in
    let v = kept_under text n in
    record {
      parens = keeps_opening Inside (e.parens all text u) (keeps_parens text u v);
      counted = keeps_opening Counted (e.counted all text u) (keeps_counted text u v);
      list = keeps_opening (All Holds) (e.listed all text u) (keeps_listed text u v);
      choices = keeps_opening Chosen (e.choices all text u) (keeps_choices text u v);
      nots = keeps_nots text u v;
      signed = keeps_signed text u v;
    }

-- an expression with at most so many levels open
pub keeps_expression : (text : Bytes) (n : ℕ) → Keeps Holds (e.expr all text (e.under all text n))
keeps_expression text n = keeps_expr text (e.under all text n) (kept_under text n)
