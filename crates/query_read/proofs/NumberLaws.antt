-- The numbers of a query that is read are within bounds.
use Rattle.std.proofs.Common.{◌≡◌, ℕ, zero, suc, ◌≤◌, Bool, true, false, ◌&&◌, List, [], ◌∷◌, Option, Some, None, refl, arith}
use Rattle.std.specs.Prelude.{Result, Ok, Err, IfOk}
use Rattle.std.specs.List.{All, list_all}
use Rattle.std.proofs.lemmas.Bool.{and_from}
use Rattle.std.proofs.lemmas.List.Elements.{All-head, All-tail}
use Rattle.phrases.specs.Phrases.{Phrase, token, Both, nothing, ◌<|>◌}
use Rattle.phrases.specs.Parsers.{next}
use Rattle.sql_read.specs.declared.kind.Kind.{Kind}
use Rattle.sql_read.specs.declared.kind.Kind.TheVariants as k
use Rattle.sql_read.specs.declared.refusal.SqlRefusal.{SqlRefusal}
use Rattle.sql_read.specs.declared.token_list.Token.{Token}
use Rattle.sql_read.specs.Lexis.{Bytes, max_integer}
use Rattle.sql_read.specs.Numbers as numbers
use Rattle.sql_read.specs.Schema.{is}
use Rattle.sql_read.specs.Tokens.{Tokens, tokens}
use Rattle.sql_read.proofs.NumberLaws.{tokens_are_measured}
use Rattle.query_trees.specs.declared.expr.AggregateKind.TheVariants.{Count}
use Rattle.query_trees.specs.declared.expr.BinaryOp.{BinaryOp}
use Rattle.query_trees.specs.declared.expr.BinaryOp.TheVariants as op
use Rattle.query_trees.specs.declared.expr.Divisor.{Divisor}
use Rattle.query_trees.specs.declared.expr.Polarity.{Polarity}
use Rattle.query_trees.specs.declared.expr.Polarity.TheVariants.{Plain, Negated}
use Rattle.query_trees.specs.declared.expr.Expr.{Expr}
use Rattle.query_trees.specs.declared.expr.Form.TheVariants as f
use Rattle.query_trees.specs.declared.clauses.SelectItem.{SelectItem}
use Rattle.query_trees.specs.declared.clauses.SelectList.{SelectList}
use Rattle.query_trees.specs.declared.clauses.SelectList.TheVariants as select
use Rattle.query_trees.specs.declared.query.Query.{Query}
use Rattle.query_trees.specs.Nodes.{node}
use Rattle.query_read.specs.declared.enclosing.Choices.{Choices}
use Rattle.query_read.specs.declared.enclosing.Enclosure.{Enclosure}
use Rattle.query_read.specs.declared.grouping.Grouping.{Grouping}
use Rattle.query_read.specs.Asked.{Asked, all}
use Rattle.query_read.specs.Literals.{content}
use Rattle.query_read.specs.Marked.{ends_date, as_step, marked_after}
use Rattle.query_read.specs.Nodes.{signs, compares, numerals, of, sign_of, sum_op, comparison, aggregate_of, numbered, counted_node, choice, chosen, enclosure, divisor_of, grouping, query_of}
use Rattle.query_read.specs.Expressions as g
use Rattle.query_read.specs.Expressions.{Depth}
use Rattle.query_read.specs.Clauses as c
use Rattle.query_read.specs.Numbers.{list_measured, optional_measured, item_measured, IsMeasured}
use Rattle.query_read.specs.QueryText.{query_tokens, IsQuery}
use Rattle.query_read.proofs.Keeping.{Each, Within, Keeps, anything, keeps_token, keeps_value, keeps_none, keeps_both, keeps_either, keeps_repeated, keeps_gap, keeps_series}
use Rattle.query_read.proofs.MeasuredForms.{Holds, holds-Number, holds-Text, holds-Date, holds-Column, holds-CountAll, holds-Aggregate, holds-Enclosed, holds-Signed, holds-Not, holds-Binary, holds-Divide, holds-Between, holds-In, holds-IsNull, holds-Coalesce}

-- ---- atoms

keeps_number : Keeps Holds g.number
keeps_number = keeps_both (keeps_token (of numerals)) (λ t h. keeps_value Holds (numbered t) (holds-Number t.at t.value t.scale h.value h.scale))

keeps_literal : (text : Bytes) → Keeps Holds (g.literal text)
keeps_literal text = keeps_both anything (λ t _. keeps_value Holds (node t.at (f.Text (content text t))) (holds-Text t.at (content text t)))

keeps_date : (m : Asked) (text : Bytes) → Keeps Holds (g.date m text)
keeps_date m text = keeps_both anything (λ t _. keeps_both anything (λ first _. keeps_both anything (λ day _. keeps_value Holds (node t.at (f.Date day)) (holds-Date t.at day))))

keeps_reference : (text : Bytes) → Keeps Holds (g.reference text)
keeps_reference text = keeps_both anything (λ c _. keeps_value Holds (node c.at (f.Column c)) (holds-Column c.at c))

abbrev Inside : Enclosure → Type 0
Inside x = Holds x.value

abbrev Counted : Option Expr → Type 0
Counted None = Unit {0}
Counted (Some a) = Holds a

abbrev Chosen : Choices → Type 0
Chosen x = Holds x.first × Each Holds x.others

record Kept (d : Depth) : Type 0 where
  parens : Keeps Inside d.parens
  counted : Keeps Counted d.counted
  list : Keeps (Each Holds) d.list
  choices : Keeps Chosen d.choices
  nots : Keeps Holds d.nots
  signed : Keeps Holds d.signed

zero_holds : Holds (node 0 (f.Number 0 0))
zero_holds = holds-Number 0 0 0 (omega arith) (omega arith)

module _ (d : Depth) (v : Kept d) where
  count_holds : (t : Token) (x : Option Expr) → Counted x → Holds (counted_node t x)
  count_holds t None h = holds-CountAll t.at
  count_holds t (Some a) h = holds-Aggregate t.at Count a h

  keeps_count : Keeps Holds (g.count d)
  keeps_count = keeps_both anything (λ t _. keeps_both (keeps_either v.counted (keeps_gap Counted None tt)) (λ x h. keeps_value Holds (counted_node t x) (count_holds t x h)))

  keeps_aggregate : Keeps Holds (g.aggregate d)
  keeps_aggregate = keeps_both anything (λ t _. keeps_both (keeps_either v.parens (keeps_gap Inside g.nowhere zero_holds)) (λ x h.
      keeps_value Holds (node t.at (f.Aggregate (aggregate_of t.kind) x.value)) (holds-Aggregate t.at (aggregate_of t.kind) x.value h)))

  keeps_coalesce : Keeps Holds (g.coalesce d)
  keeps_coalesce = keeps_both anything (λ t _. keeps_both (keeps_either v.choices (keeps_gap Chosen g.no_choices (zero_holds, tt))) (λ x h.
      keeps_value Holds (chosen t x) (holds-Coalesce t.at x.first x.others h.0 h.1)))

  keeps_enclosed : Keeps Holds (g.enclosed d)
  keeps_enclosed = keeps_both v.parens (λ x h. keeps_value Holds (node x.at (f.Enclosed x.value)) (holds-Enclosed x.at x.value h))

-- ---- operators

abbrev Divides : Divisor → Type 0
Divides v = v.value ≤ max_integer

keeps_divisor : Keeps Divides g.divisor
keeps_divisor = keeps_either
    (keeps_both anything (λ s _. keeps_both (keeps_token (is k.Digits)) (λ n h. keeps_value Divides (divisor_of (Some (sign_of s.kind)) n) h.value)))
    (keeps_both (keeps_token (is k.Digits)) (λ n h. keeps_value Divides (divisor_of None n) h.value))

keeps_over : (a : Expr) → Holds a → Keeps Holds (g.over a)
keeps_over a h = keeps_both anything (λ t _. keeps_both keeps_divisor (λ v e. keeps_value Holds (node a.at (f.Divide t.at a v)) (holds-Divide a.at t.at a v h e)))

keeps_operator : (a : Expr) (test : Token → Bool) (o : Token → BinaryOp) (L : Phrase Token Expr) → Keeps Holds L → Holds a → Keeps Holds (Both (token test) (λ t. Both L (λ b. nothing (node a.at (f.Binary (o t) t.at a b)))))
keeps_operator a test o L p h = keeps_both anything (λ t _. keeps_both p (λ b e. keeps_value Holds (node a.at (f.Binary (o t) t.at a b)) (holds-Binary a.at (o t) t.at a b h e)))

keeps_operation : (kind : Kind) (o : BinaryOp) (L : Phrase Token Expr) → Keeps Holds L → (a : Expr) → Holds a → Keeps Holds (g.operation kind o L a)
keeps_operation kind o L p a h = keeps_operator a (is kind) (λ _. o) L p h

module _ (m : Asked) (text : Bytes) (d : Depth) (v : Kept d) where
  keeps_atom : Keeps Holds (g.atom m text d)
  keeps_atom =
      keeps_either keeps_number
      (keeps_either (keeps_literal text)
      (keeps_either (keeps_date m text)
      (keeps_either (keeps_reference text)
      (keeps_either (keeps_count d v)
      (keeps_either (keeps_aggregate d v)
      (keeps_either (keeps_coalesce d v) (keeps_enclosed d v)))))))

  keeps_factor : Keeps Holds (g.factor m text d)
  keeps_factor = keeps_either v.signed keeps_atom

  keeps_term : Keeps Holds (g.term m text d)
  keeps_term =
      keeps_both keeps_factor
      (keeps_repeated Holds (λ a. g.times m text d a <|> g.over a)
      (λ a h. keeps_either (keeps_operator a (is k.Star) (λ _. op.Multiply) (g.factor m text d) keeps_factor h) (keeps_over a h)))

  keeps_sum : Keeps Holds (g.sum m text d)
  keeps_sum = keeps_both keeps_term (keeps_repeated Holds (g.added m text d) (λ a h. keeps_operator a (of signs) (λ s. sum_op s.kind) (g.term m text d) keeps_term h))

  keeps_between : (p : Polarity) (a : Expr) → Holds a → Keeps Holds (g.between m text d p a)
  keeps_between p a h =
      keeps_both anything (λ t _. keeps_both keeps_sum (λ low i. keeps_both anything (λ _ _. keeps_both keeps_sum (λ high j.
      keeps_value Holds (node a.at (f.Between p t.at a low high)) (holds-Between a.at p t.at a low high h i j)))))

  keeps_contained : (p : Polarity) (a : Expr) → Holds a → Keeps Holds (g.contained m text d p a)
  keeps_contained p a h =
      keeps_both anything (λ t _. keeps_both (keeps_either v.list (keeps_gap (Each Holds) [] tt)) (λ xs i.
      keeps_value Holds (node a.at (f.In p t.at a xs)) (holds-In a.at p t.at a xs h i)))

  keeps_ranged : (p : Polarity) (a : Expr) → Holds a → Keeps Holds (g.ranged m text d p a)
  keeps_ranged p a h = keeps_either (keeps_between p a h) (keeps_contained p a h)

  keeps_nullity : (a : Expr) → Holds a → Keeps Holds (g.nullity a)
  keeps_nullity a h = keeps_both anything (λ t _. keeps_both anything (λ p _. keeps_both anything (λ _ _. keeps_value Holds (node a.at (f.IsNull p t.at a)) (holds-IsNull a.at p t.at a h))))

  keeps_test : (a : Expr) → Holds a → Keeps Holds (g.predicate_tail m text d a)
  keeps_test a h =
      keeps_either (keeps_operator a (of compares) (λ t. comparison t.kind) (g.sum m text d) keeps_sum h)
      (keeps_either (keeps_both anything (λ _ _. keeps_ranged Negated a h))
      (keeps_either (keeps_ranged Plain a h)
      (keeps_either (keeps_nullity a h) (keeps_value Holds a h))))

  keeps_neg : Keeps Holds (g.neg m text d)
  keeps_neg = keeps_either v.nots (keeps_both keeps_sum keeps_test)

  keeps_conj : Keeps Holds (g.conj m text d)
  keeps_conj = keeps_both keeps_neg (keeps_repeated Holds (g.operation k.And op.And (g.neg m text d)) (keeps_operation k.And op.And (g.neg m text d) keeps_neg))

  keeps_expr : Keeps Holds (g.expr m text d)
  keeps_expr = keeps_both keeps_conj (keeps_repeated Holds (g.operation k.Or op.Or (g.conj m text d)) (keeps_operation k.Or op.Or (g.conj m text d) keeps_conj))

  -- ---- one level deeper

  keeps_parens : Keeps Inside (g.parens m text d)
  keeps_parens = keeps_both anything (λ t _. keeps_both keeps_expr (λ a h. keeps_both anything (λ _ _. keeps_value Inside (enclosure t a) h)))

  keeps_counted : Keeps Counted (g.counted m text d)
  keeps_counted = keeps_both anything (λ _ _. keeps_both
      (keeps_either (keeps_both anything (λ _ _. keeps_value Counted None tt)) (keeps_both keeps_expr (λ a h. keeps_value Counted (Some a) h)))
      (λ x h. keeps_both anything (λ _ _. keeps_value Counted x h)))

  keeps_listed : Keeps (Each Holds) (g.listed m text d)
  keeps_listed = keeps_both anything (λ _ _. keeps_both (keeps_series Holds (g.sum m text d) keeps_sum) (λ xs h. keeps_both anything (λ _ _. keeps_value (Each Holds) xs h)))

  keeps_choices : Keeps Chosen (g.choices m text d)
  keeps_choices = keeps_both anything (λ _ _. keeps_both
      (keeps_both keeps_expr (λ a h. keeps_both anything (λ _ _. keeps_both (keeps_series Holds (g.expr m text d) keeps_expr) (λ xs i. keeps_value Chosen (choice a xs) (h, i)))))
      (λ x h. keeps_both anything (λ _ _. keeps_value Chosen x h)))

  keeps_nots : Keeps Holds (g.nots m text d)
  keeps_nots = keeps_both anything (λ t _. keeps_both keeps_neg (λ a h. keeps_value Holds (node t.at (f.Not a)) (holds-Not t.at a h)))

  keeps_signed : Keeps Holds (g.signed m text d)
  keeps_signed = keeps_both anything (λ s _. keeps_both keeps_atom (λ a h. keeps_value Holds (node s.at (f.Signed (sign_of s.kind) a)) (holds-Signed s.at (sign_of s.kind) a h)))

kept_depth : (m : Asked) (text : Bytes) (n : ℕ) → Kept (g.depth m text n)
unfolding g.depth
kept_depth m text zero = record { parens = keeps_none Inside; counted = keeps_none Counted; list = keeps_none (Each Holds); choices = keeps_none Chosen; nots = keeps_none Holds; signed = keeps_none Holds }
kept_depth m text (suc n) =
    let d = g.depth m text n in
    let v = kept_depth m text n in
    record { parens = keeps_parens m text d v; counted = keeps_counted m text d v; list = keeps_listed m text d v; choices = keeps_choices m text d v; nots = keeps_nots m text d v; signed = keeps_signed m text d v }

-- ---- clauses

abbrev Listed : SelectList → Type 0
Listed l = list_measured l ≡ true

abbrev Optional : Option Expr → Type 0
Optional o = optional_measured o ≡ true

abbrev ItemHolds : SelectItem → Type 0
ItemHolds x = item_measured x ≡ true

items_hold : (xs : List SelectItem) → Each ItemHolds xs → list_all item_measured xs ≡ true
items_hold [] h = refl
items_hold (x ∷ xs) h = and_from (item_measured x) (list_all item_measured xs) h.0 (items_hold xs h.1)

module _ (text : Bytes) (E : Phrase Token Expr) (p : Keeps Holds E) where
  keeps_list : Keeps Listed (c.list text E)
  keeps_list = keeps_either
      (keeps_both anything (λ t _. keeps_value Listed (select.All t.at) refl))
      (keeps_both (keeps_series ItemHolds (c.item text E) (keeps_both p (λ a h. keeps_both anything (λ x _. keeps_value ItemHolds (record { value = a; alias = x }) h)))) (λ xs h. keeps_value Listed (select.Items xs) (items_hold xs h)))

  keeps_condition : (kind : Kind) → Keeps Optional (c.condition kind E)
  keeps_condition kind = keeps_either (keeps_both anything (λ _ _. keeps_both p (λ a h. keeps_value Optional (Some a) h))) (keeps_value Optional None refl)

  abbrev Grouped : Grouping → Type 0
  Grouped x = Optional x.having

  keeps_groups : Keeps Grouped (c.groups text E)
  keeps_groups = keeps_either
      (keeps_both anything (λ _ _. keeps_both anything (λ _ _. keeps_both anything (λ cs _. keeps_both (keeps_condition k.Having) (λ h i. keeps_value Grouped (grouping cs h) i)))))
      (keeps_value Grouped (grouping [] None) refl)

  keeps_query : Keeps IsMeasured (c.query_over text E)
  keeps_query =
      keeps_both anything (λ s _. keeps_both anything (λ x _. keeps_both keeps_list (λ l i. keeps_both anything (λ _ _. keeps_both anything (λ t _.
      keeps_both (keeps_condition k.Where) (λ w j. keeps_both keeps_groups (λ h a. keeps_both anything (λ o _.
      let q = query_of s x l t w h o in
      let is : IsMeasured q = and_from (list_measured l) _ i (and_from (optional_measured w) (optional_measured h.having) j a) in
      keeps_either (keeps_both anything (λ _ _. keeps_value IsMeasured q is)) (keeps_value IsMeasured q is)))))))))

-- ---- the tokens of a text

each_all : (ts : Tokens) → All numbers.IsMeasured ts → Within ts
each_all [] h = tt
each_all (t ∷ ts) h = (All-head numbers.IsMeasured t ts h, each_all ts (All-tail numbers.IsMeasured t ts h))

step_measured : (b : Bool) (t : Token) → numbers.IsMeasured t → numbers.IsMeasured (as_step b t)
step_measured true t h = record { value = h.value; scale = h.scale }
step_measured false t h = h

marked_measured : (before latest : Kind) (ts : Tokens) → Within ts → Within (marked_after before latest ts)
marked_measured before latest [] h = tt
marked_measured before latest (t ∷ ts) h = (step_measured (ends_date before latest && next (is k.Interval) ts) t h.0, marked_measured latest t.kind ts h.1)

pub query_is_measured : (text : Bytes) (q : Query) → IsQuery text q → IsMeasured q
query_is_measured text q h =
    (keeps_query text (g.expr all text (g.depth all text 64)) (keeps_expr all text (g.depth all text 64) (kept_depth all text 64))).holds (query_tokens text) q h.1
    (marked_measured k.Blank k.Blank (tokens 2048 text) (each_all (tokens 2048 text) (tokens_are_measured text 2048)))

pub measured_by : (text : Bytes) (r : Result Query SqlRefusal) → IfOk r (IsQuery text) → IfOk r IsMeasured
measured_by text (Ok q) h = query_is_measured text q h
measured_by text (Err e) h = tt
