-- The expressions of a query cost no more than its tokens.
use Rattle.std.proofs.Common.{ℕ, ◌+◌, Option, Some, None, arith}
use Rattle.phrases.specs.Phrases.{Phrase}
use Rattle.sql_read.specs.declared.kind.Kind.{Kind}
use Rattle.sql_read.specs.declared.kind.Kind.TheVariants as k
use Rattle.sql_read.specs.declared.token_list.Token.{Token}
use Rattle.sql_read.specs.Lexis.{Bytes}
use Rattle.sql_read.specs.Schema.{word}
use Rattle.query_trees.specs.declared.expr.Expr.{Expr}
use Rattle.query_trees.specs.declared.clauses.SelectItem.{SelectItem}
use Rattle.query_trees.specs.declared.clauses.SelectList.{SelectList}
use Rattle.query_trees.specs.declared.clauses.SelectList.TheVariants as select
use Rattle.query_trees.specs.declared.query.Query.{Query}
use Rattle.query_read.specs.declared.grouping.Grouping.{Grouping}
use Rattle.query_read.specs.Asked.{Asked}
use Rattle.query_read.specs.Nodes.{grouping, query_of}
use Rattle.query_read.specs.Expressions as g
use Rattle.query_read.specs.Clauses as c
use Rattle.query_sizes.proofs.Totals.{total}
use Rattle.query_sizes.proofs.Costs.{cost}
use Rattle.query_sizes.proofs.Weights.{Weighs, idle, weighs_value, weighs_both, weighs_either, weighs_series, behind}
use Rattle.query_sizes.proofs.Expressions.{Costs, costs_expr, cheap_depth}

abbrev pub item_cost : SelectItem → ℕ
item_cost x = cost x.value

abbrev pub list_cost : SelectList → ℕ
list_cost (select.All at) = 0
list_cost (select.Items xs) = total item_cost xs

abbrev pub optional_cost : Option Expr → ℕ
optional_cost None = 0
optional_cost (Some e) = cost e

-- the items, WHERE and HAVING
abbrev pub query_cost : Query → ℕ
query_cost q = list_cost q.list + optional_cost q.filter + optional_cost q.having

module _ (text : Bytes) (E : Phrase Token Expr) (cheap : Costs E) where
  weighs_item : Weighs 0 item_cost (c.item text E)
  weighs_item =
      weighs_both cheap (λ a.
      weighs_both (idle (cost a) (c.alias text)) (λ x.
      weighs_value (cost a) item_cost (record { value = a; alias = x }) (omega arith)))

  weighs_list : Weighs 0 list_cost (c.list text E)
  weighs_list =
      weighs_either
      (weighs_both (idle 0 (word k.Star)) (λ t. weighs_value 0 list_cost (select.All t.at) (omega arith)))
      (weighs_both (weighs_series item_cost (c.item text E) weighs_item) (λ xs. weighs_value (total item_cost xs) list_cost (select.Items xs) (omega arith)))

  weighs_condition : (n : ℕ) (kind : Kind) → Weighs n (λ o. n + optional_cost o) (c.condition kind E)
  weighs_condition n kind =
      weighs_either
      (weighs_both (idle n (word kind)) (λ _. weighs_both (behind n cheap) (λ a. weighs_value (n + cost a) (λ o. n + optional_cost o) (Some a) (omega arith))))
      (weighs_value n (λ o. n + optional_cost o) None (omega arith))

  weighs_groups : (n : ℕ) → Weighs n (λ (x : Grouping). n + optional_cost x.having) (c.groups text E)
  weighs_groups n =
      weighs_either
      (weighs_both (idle n (word k.Group)) (λ _.
      weighs_both (idle n (word k.By)) (λ _.
      weighs_both (idle n (g.series (g.column text))) (λ cs.
      weighs_both (weighs_condition n k.Having) (λ h.
      weighs_value (n + optional_cost h) (λ (x : Grouping). n + optional_cost x.having) (grouping cs h) (omega arith))))))
      (weighs_value n (λ (x : Grouping). n + optional_cost x.having) (grouping _ None) (omega arith))

  weighs_query : Weighs 0 query_cost (c.query_over text E)
  weighs_query =
      weighs_both (idle 0 (word k.Select)) (λ s.
      weighs_both (idle 0 c.distinct) (λ x.
      weighs_both weighs_list (λ l.
      weighs_both (idle (list_cost l) (word k.From)) (λ _.
      weighs_both (idle (list_cost l) (c.source text)) (λ t.
      weighs_both (weighs_condition (list_cost l) k.Where) (λ w.
      weighs_both (weighs_groups (list_cost l + optional_cost w)) (λ h.
      weighs_both (idle (list_cost l + optional_cost w + optional_cost h.having) (c.order text)) (λ o.
      let q = query_of s x l t w h o in
      weighs_either
      (weighs_both (idle (query_cost q) (word k.Semicolon)) (λ _. weighs_value (query_cost q) query_cost q (omega arith)))
      (weighs_value (query_cost q) query_cost q (omega arith))))))))))

pub query_weighs : (m : Asked) (text : Bytes) (n : ℕ) → Weighs 0 query_cost (c.query m text n)
query_weighs m text n = weighs_query text (g.expr m text (g.depth m text n)) (costs_expr m text (g.depth m text n) (cheap_depth m text n))
