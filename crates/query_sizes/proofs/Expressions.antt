-- An expression costs no more than the tokens that stand for it.
use Rattle.std.proofs.Common.{Bool, ℕ, zero, suc, ◌+◌, ◌≤◌, [], Option, Some, None, arith}
use Rattle.phrases.specs.Phrases.{Phrase, token, Both, nothing, ◌<|>◌, Repeated}
use Rattle.sql_read.specs.declared.kind.Kind.{Kind}
use Rattle.sql_read.specs.declared.kind.Kind.TheVariants as k
use Rattle.sql_read.specs.declared.token_list.Token.{Token}
use Rattle.sql_read.specs.Lexis.{Bytes}
use Rattle.sql_read.specs.Schema.{is, word}
use Rattle.query_trees.specs.declared.expr.AggregateKind.TheVariants.{Count}
use Rattle.query_trees.specs.declared.expr.BinaryOp.{BinaryOp}
use Rattle.query_trees.specs.declared.expr.BinaryOp.TheVariants as op
use Rattle.query_trees.specs.declared.expr.Polarity.{Polarity}
use Rattle.query_trees.specs.declared.expr.Polarity.TheVariants.{Plain, Negated}
use Rattle.query_trees.specs.declared.expr.Expr.{Expr}
use Rattle.query_trees.specs.declared.expr.Form.TheVariants as f
use Rattle.query_read.specs.declared.enclosing.Enclosure.{Enclosure}
use Rattle.query_read.specs.declared.enclosing.Choices.{Choices}
use Rattle.query_read.specs.Asked.{Asked}
use Rattle.query_read.specs.Literals.{content}
use Rattle.query_trees.specs.Nodes.{node}
use Rattle.query_read.specs.Nodes.{signs, compares, numerals, aggregates, of, sign_of, sum_op, comparison, aggregate_of, numbered, counted_node, choice, chosen, enclosure}
use Rattle.query_read.specs.Expressions as g
use Rattle.query_read.specs.Expressions.{Depth}
use Rattle.query_sizes.proofs.Costs.{cost, costs, cost-Number, cost-Text, cost-Date, cost-Column, cost-CountAll, cost-Aggregate, cost-Enclosed, cost-Signed, cost-Not, cost-Binary, cost-Divide, cost-Between, cost-In, cost-IsNull, cost-Coalesce}
use Rattle.query_sizes.proofs.Weights.{Weighs, idle, weighs_token, weighs_value, weighs_none, weighs_both, weighs_either, weighs_repeated, weighs_gap, weighs_series, behind}

abbrev pub Costs : Phrase Token Expr → Type 0
Costs L = Weighs 0 cost L

-- ---- atoms

costs_number : Costs g.number
costs_number = weighs_both (weighs_token 0 (of numerals)) (λ t. weighs_value 1 cost (numbered t) (omega (arith, cost-Number t.at t.value t.scale)))

costs_literal : (text : Bytes) → Costs (g.literal text)
costs_literal text = weighs_both (weighs_token 0 (is k.Quoted)) (λ t. weighs_value 1 cost (node t.at (f.Text (content text t))) (omega (arith, cost-Text t.at (content text t))))

date_text : (m : Asked) (text : Bytes) → Weighs 1 (λ _. 2) (g.date_text m text)
date_text m text =
    weighs_either
    (weighs_both (weighs_token 1 _) (λ t. weighs_value 2 (λ _. 2) _ (omega arith)))
    (weighs_gap 1 (λ _. 2) _ (omega arith))

costs_date : (m : Asked) (text : Bytes) → Costs (g.date m text)
costs_date m text =
    weighs_both (weighs_token 0 (is k.Date)) (λ t.
    weighs_both (date_text m text) (λ first.
    weighs_both (idle 2 (Repeated (g.step m text) first)) (λ day.
    weighs_value 2 cost (node t.at (f.Date day)) (omega (arith, cost-Date t.at day)))))

costs_reference : (text : Bytes) → Costs (g.reference text)
costs_reference text =
    weighs_both (column text) (λ c. weighs_value 1 cost (node c.at (f.Column c)) (omega (arith, cost-Column c.at c)))
  where
    column : (text : Bytes) → Weighs 0 (λ _. 1) (g.column text)
    column text = weighs_both (weighs_token 0 (is k.Name)) (λ n. idle 1 _)

-- what stands in the parentheses of a COUNT, and of a COALESCE, with them
abbrev count_cost : Option Expr → ℕ
count_cost None = 3
count_cost (Some a) = 2 + cost a

abbrev choices_cost : Choices → ℕ
choices_cost x = 2 + cost x.first + costs x.others

-- what may open a level, with the tokens that it takes itself
pub record Cheap (d : Depth) : Type 0 where
  pub parens : Weighs 0 (λ x. 2 + cost x.value) d.parens
  pub counted : Weighs 0 count_cost d.counted
  pub list : Weighs 0 (λ xs. 2 + costs xs) d.list
  pub choices : Weighs 0 choices_cost d.choices
  pub nots : Costs d.nots
  pub signed : Costs d.signed

module _ (d : Depth) (cheap : Cheap d) where
  costs_count : Costs (g.count d)
  costs_count =
      weighs_both (weighs_token 0 (is k.Count)) (λ t.
      weighs_both (weighs_either (behind 1 cheap.counted) (weighs_gap 1 (λ x. 1 + count_cost x) None (omega arith))) (λ x.
      weighs_value (1 + count_cost x) cost (counted_node t x) (counted t x)))
    where
      counted : (t : Token) (x : Option Expr) → cost (counted_node t x) ≤ 1 + count_cost x
      counted t None = omega (arith, cost-CountAll t.at)
      counted t (Some a) = omega (arith, cost-Aggregate t.at Count a)

  costs_coalesce : Costs (g.coalesce d)
  costs_coalesce =
      weighs_both (weighs_token 0 (is k.Coalesce)) (λ t.
      weighs_both (weighs_either (behind 1 cheap.choices) (weighs_gap 1 (λ x. 1 + choices_cost x) g.no_choices (omega (arith, cost-Number 0 0 0)))) (λ x.
      weighs_value (1 + choices_cost x) cost (chosen t x) (omega (arith, cost-Coalesce t.at x.first x.others))))

  argument : Weighs 1 (λ x. 1 + (2 + cost x.value)) (d.parens <|> g.gap g.nowhere)
  argument = weighs_either (behind 1 cheap.parens) (weighs_gap 1 (λ x. 1 + (2 + cost x.value)) g.nowhere (omega (arith, cost-Number 0 0 0)))

  costs_aggregate : Costs (g.aggregate d)
  costs_aggregate =
      weighs_both (weighs_token 0 (of aggregates)) (λ t.
      weighs_both argument (λ x.
      weighs_value (1 + (2 + cost x.value)) cost (node t.at (f.Aggregate (aggregate_of t.kind) x.value)) (omega (arith, cost-Aggregate t.at (aggregate_of t.kind) x.value))))

  costs_enclosed : Costs (g.enclosed d)
  costs_enclosed =
      weighs_both cheap.parens (λ x.
      weighs_value (2 + cost x.value) cost (node x.at (f.Enclosed x.value)) (omega (arith, cost-Enclosed x.at x.value)))

-- ---- sums

divisor : (n : ℕ) → Weighs n (λ _. n + 1) g.divisor
divisor n =
    weighs_either
    (weighs_both (weighs_token n (of signs)) (λ s. weighs_both (idle (n + 1) (word k.Digits)) (λ v. weighs_value (n + 1) (λ _. n + 1) _ (omega arith))))
    (weighs_both (weighs_token n (is k.Digits)) (λ v. weighs_value (n + 1) (λ _. n + 1) _ (omega arith)))

weighs_over : (a : Expr) → Weighs (cost a) cost (g.over a)
weighs_over a =
    weighs_both (weighs_token (cost a) (is k.Slash)) (λ t.
    weighs_both (divisor (cost a + 1)) (λ v.
    weighs_value (cost a + 1 + 1) cost (node a.at (f.Divide t.at a v)) (omega (arith, cost-Divide a.at t.at a v))))

-- an operator, and what stands to its right
weighs_operator : (a : Expr) (test : Token → Bool) (o : Token → BinaryOp) (L : Phrase Token Expr) → Costs L → Weighs (cost a) cost (Both (token test) (λ t. Both L (λ b. nothing (node a.at (f.Binary (o t) t.at a b)))))
weighs_operator a test o L p =
    weighs_both (weighs_token (cost a) test) (λ t.
    weighs_both (behind (cost a + 1) p) (λ b.
    weighs_value (cost a + 1 + cost b) cost (node a.at (f.Binary (o t) t.at a b)) (omega (arith, cost-Binary a.at (o t) t.at a b))))

weighs_operation : (kind : Kind) (o : BinaryOp) (L : Phrase Token Expr) → Costs L → (a : Expr) → Weighs (cost a) cost (g.operation kind o L a)
weighs_operation kind o L p a = weighs_operator a (is kind) (λ _. o) L p

module _ (m : Asked) (text : Bytes) (d : Depth) (cheap : Cheap d) where
  costs_atom : Costs (g.atom m text d)
  costs_atom =
      weighs_either costs_number
      (weighs_either (costs_literal text)
      (weighs_either (costs_date m text)
      (weighs_either (costs_reference text)
      (weighs_either (costs_count d cheap)
      (weighs_either (costs_aggregate d cheap)
      (weighs_either (costs_coalesce d cheap) (costs_enclosed d cheap)))))))

  costs_factor : Costs (g.factor m text d)
  costs_factor = weighs_either cheap.signed costs_atom

  costs_term : Costs (g.term m text d)
  costs_term =
      weighs_both costs_factor
      (weighs_repeated cost (λ a. g.times m text d a <|> g.over a)
      (λ a. weighs_either (weighs_operator a (is k.Star) (λ _. op.Multiply) (g.factor m text d) costs_factor) (weighs_over a)))

  costs_sum : Costs (g.sum m text d)
  costs_sum =
      weighs_both costs_term
      (weighs_repeated cost (g.added m text d)
      (λ a. weighs_operator a (of signs) (λ s. sum_op s.kind) (g.term m text d) costs_term))

  -- ---- predicates

  weighs_between : (p : Polarity) (a : Expr) → Weighs (cost a) cost (g.between m text d p a)
  weighs_between p a =
      weighs_both (weighs_token (cost a) (is k.Between)) (λ t.
      weighs_both (behind (cost a + 1) costs_sum) (λ low.
      weighs_both (weighs_token (cost a + 1 + cost low) (is k.And)) (λ _.
      weighs_both (behind (cost a + 1 + cost low + 1) costs_sum) (λ high.
      weighs_value (cost a + 1 + cost low + 1 + cost high) cost (node a.at (f.Between p t.at a low high)) (omega (arith, cost-Between a.at p t.at a low high))))))

  weighs_contained : (p : Polarity) (a : Expr) → Weighs (cost a) cost (g.contained m text d p a)
  weighs_contained p a =
      weighs_both (weighs_token (cost a) (is k.In)) (λ t.
      weighs_both (weighs_either (behind (cost a + 1) cheap.list) (weighs_gap (cost a + 1) (λ xs. cost a + 1 + (2 + costs xs)) [] (omega arith))) (λ xs.
      weighs_value (cost a + 1 + (2 + costs xs)) cost (node a.at (f.In p t.at a xs)) (omega (arith, cost-In a.at p t.at a xs))))

  weighs_ranged : (p : Polarity) (a : Expr) → Weighs (cost a) cost (g.ranged m text d p a)
  weighs_ranged p a = weighs_either (weighs_between p a) (weighs_contained p a)

  weighs_nullity : (a : Expr) → Weighs (cost a) cost (g.nullity a)
  weighs_nullity a =
      weighs_both (weighs_token (cost a) (is k.Is)) (λ t.
      weighs_both (idle (cost a + 1) g.polarity) (λ p.
      weighs_both (weighs_token (cost a + 1) (is k.Null)) (λ _.
      weighs_value (cost a + 1 + 1) cost (node a.at (f.IsNull p t.at a)) (omega (arith, cost-IsNull a.at p t.at a)))))

  weighs_test : (a : Expr) → Weighs (cost a) cost (g.predicate_tail m text d a)
  weighs_test a =
      weighs_either (weighs_operator a (of compares) (λ t. comparison t.kind) (g.sum m text d) costs_sum)
      (weighs_either (weighs_both (idle (cost a) (word k.Not)) (λ _. weighs_ranged Negated a))
      (weighs_either (weighs_ranged Plain a)
      (weighs_either (weighs_nullity a) (weighs_value (cost a) cost a (omega arith)))))

  costs_pred : Costs (g.pred m text d)
  costs_pred = weighs_both costs_sum weighs_test

  costs_neg : Costs (g.neg m text d)
  costs_neg = weighs_either cheap.nots costs_pred

  costs_conj : Costs (g.conj m text d)
  costs_conj = weighs_both costs_neg (weighs_repeated cost (g.operation k.And op.And (g.neg m text d)) (weighs_operation k.And op.And (g.neg m text d) costs_neg))

  pub costs_expr : Costs (g.expr m text d)
  costs_expr = weighs_both costs_conj (weighs_repeated cost (g.operation k.Or op.Or (g.conj m text d)) (weighs_operation k.Or op.Or (g.conj m text d) costs_conj))

  -- ---- the same one level deeper

  weighs_parens : Weighs 0 (λ x. 2 + cost x.value) (g.parens m text d)
  weighs_parens =
      weighs_both (weighs_token 0 (is k.OpenParen)) (λ t.
      weighs_both (behind 1 costs_expr) (λ a.
      weighs_both (weighs_token (1 + cost a) (is k.CloseParen)) (λ _.
      weighs_value (1 + cost a + 1) (λ (x : Enclosure). 2 + cost x.value) (enclosure t a) (omega arith))))

  weighs_listed : Weighs 0 (λ xs. 2 + costs xs) (g.listed m text d)
  weighs_listed =
      weighs_both (weighs_token 0 (is k.OpenParen)) (λ _.
      weighs_both (behind 1 (weighs_series cost (g.sum m text d) costs_sum)) (λ xs.
      weighs_both (weighs_token (1 + costs xs) (is k.CloseParen)) (λ _.
      weighs_value (1 + costs xs + 1) (λ xs. 2 + costs xs) xs (omega arith))))

  -- `*` is a token of its own
  abbrev opened_cost : Option Expr → ℕ
  opened_cost None = 2
  opened_cost (Some a) = 1 + cost a

  closed_cost : (x : Option Expr) → count_cost x ≤ opened_cost x + 1
  closed_cost None = omega arith
  closed_cost (Some a) = omega arith

  weighs_star_or_expr : Weighs 1 opened_cost (g.star_or_expr m text d)
  weighs_star_or_expr =
      weighs_either
      (weighs_both (weighs_token 1 (is k.Star)) (λ _. weighs_value 2 opened_cost None (omega arith)))
      (weighs_both (behind 1 costs_expr) (λ a. weighs_value (1 + cost a) opened_cost (Some a) (omega arith)))

  weighs_counted : Weighs 0 count_cost (g.counted m text d)
  weighs_counted =
      weighs_both (weighs_token 0 (is k.OpenParen)) (λ _.
      weighs_both weighs_star_or_expr (λ x.
      weighs_both (weighs_token (opened_cost x) (is k.CloseParen)) (λ _.
      weighs_value (opened_cost x + 1) count_cost x (closed_cost x))))

  weighs_alternatives : Weighs 1 (λ (x : Choices). 1 + cost x.first + costs x.others) (g.alternatives m text d)
  weighs_alternatives =
      weighs_both (behind 1 costs_expr) (λ a.
      weighs_both (idle (1 + cost a) (word k.Comma)) (λ _.
      weighs_both (behind (1 + cost a) (weighs_series cost (g.expr m text d) costs_expr)) (λ xs.
      weighs_value (1 + cost a + costs xs) (λ (x : Choices). 1 + cost x.first + costs x.others) (choice a xs) (omega arith))))

  weighs_choices : Weighs 0 choices_cost (g.choices m text d)
  weighs_choices =
      weighs_both (weighs_token 0 (is k.OpenParen)) (λ _.
      weighs_both weighs_alternatives (λ x.
      weighs_both (weighs_token (1 + cost x.first + costs x.others) (is k.CloseParen)) (λ _.
      weighs_value (1 + cost x.first + costs x.others + 1) choices_cost x (omega arith))))

  costs_nots : Costs (g.nots m text d)
  costs_nots =
      weighs_both (weighs_token 0 (is k.Not)) (λ t.
      weighs_both (behind 1 costs_neg) (λ a.
      weighs_value (1 + cost a) cost (node t.at (f.Not a)) (omega (arith, cost-Not t.at a))))

  costs_signed : Costs (g.signed m text d)
  costs_signed =
      weighs_both (weighs_token 0 (of signs)) (λ s.
      weighs_both (behind 1 costs_atom) (λ a.
      weighs_value (1 + cost a) cost (node s.at (f.Signed (sign_of s.kind) a)) (omega (arith, cost-Signed s.at (sign_of s.kind) a))))

pub cheap_depth : (m : Asked) (text : Bytes) (n : ℕ) → Cheap (g.depth m text n)
unfolding g.depth
cheap_depth m text zero = record {
  parens = weighs_none 0 _;
  counted = weighs_none 0 _;
  list = weighs_none 0 _;
  choices = weighs_none 0 _;
  nots = weighs_none 0 cost;
  signed = weighs_none 0 cost;
}
cheap_depth m text (suc n) =
    let d = g.depth m text n in
    let cheap = cheap_depth m text n in
    record {
      parens = weighs_parens m text d cheap;
      counted = weighs_counted m text d cheap;
      list = weighs_listed m text d cheap;
      choices = weighs_choices m text d cheap;
      nots = costs_nots m text d cheap;
      signed = costs_signed m text d cheap;
    }
