-- A query that is read and typed is small.
use Rattle.std.proofs.Common.{◌≡◌, ◌+◌, ◌*◌, ◌≤◌, List, [], length, Option, Ok, ap, ◌∙◌, arith}
use Rattle.sql_read.specs.declared.definition.TableDef.{TableDef}
use Rattle.query_trees.specs.declared.query.Query.{Query}
use Rattle.query_read.specs.Asked.{all}
use Rattle.query_read.specs.QueryText.{query_tokens}
use Rattle.query_types.specs.declared.items.Shown.{Shown}
use Rattle.query_types.specs.declared.sources.Tables.{Tables}
use Rattle.typed_trees.specs.declared.typed.Aggregate.{Aggregate}
use Rattle.typed_trees.specs.declared.typed.TypedExpr.{TypedExpr}
use Rattle.typed_trees.specs.declared.typed.TypedQuery.{TypedQuery}
use Rattle.query_types.specs.Names.{Scope, on_rows}
use Rattle.query_types.specs.Grouping.{groups_of, is_grouped}
use Rattle.query_types.specs.Items.{shown_of}
use Rattle.query_types.specs.Ordering.{keys}
use Rattle.query_types.specs.Sources.{tables_of}
use Rattle.query_types.specs.Typing.{filter, having, scope_of, answered_with, answer, query_of, typed_over, typed_query}
use Rattle.query_sizes.specs.Sizes.{nodes, optional_nodes, aggregate_nodes, source_nodes, query_nodes, SizeLaw}
use Rattle.query_sizes.proofs.Totals.{total, sum_by-total}
use Rattle.query_sizes.proofs.Clauses.{list_cost, optional_cost, query_cost, query_weighs}
use Rattle.query_sizes.proofs.TokenCount.{tokens_few}
use Rattle.query_sizes.proofs.Growth.{ok_same, then_ok}
use Rattle.query_sizes.proofs.Items.{grows_shown, grows_having, filter_made, tables_made, tables_nodes, shown_nodes}

-- the nodes and the aggregates of items and HAVING
record IsBounded (q : Query) (shown : Shown) (condition : Option TypedExpr) (met : List Aggregate) : Type 0 where
  pub nodes : total aggregate_nodes met + optional_nodes condition + shown_nodes shown ≤ 64 + list_cost q.list + optional_cost q.having
  pub count : 4 * length met ≤ list_cost q.list + optional_cost q.having

bounded : (s : Scope) (q : Query) (shown : Shown) (condition : Option TypedExpr) (before met : List Aggregate) → shown_of s q.list [] ≡ Ok (shown, before) → having s q.having before ≡ Ok (condition, met) → IsBounded q shown condition met
bounded s q shown condition before met first after =
    let x = (grows_shown s q.list).most [] before shown first in
    let y = (grows_having s q.having).most before met condition after in
    let x_nodes = x.nodes in
    let x_count = x.count in
    let y_nodes = y.nodes in
    let y_count = y.count in
    record { nodes = omega (arith, x_nodes, y_nodes); count = omega (arith, x_count, y_count) }

-- the nodes and the aggregates of a typed query
record IsWithin (q : Query) (t : TypedQuery) : Type 0 where
  pub nodes : query_nodes t ≤ 64 + query_cost q
  pub count : 4 * length t.aggregates ≤ query_cost q

totals : (t : TypedQuery) → query_nodes t ≡ total nodes t.filter + total aggregate_nodes t.aggregates + optional_nodes t.having + total nodes t.items + total source_nodes t.sources
totals t = omega (arith, sum_by-total nodes t.filter, sum_by-total aggregate_nodes t.aggregates, sum_by-total nodes t.items, sum_by-total source_nodes t.sources)

over_within : (defs : List TableDef) (q : Query) (f : Tables) (t : TypedQuery) → tables_nodes f ≤ 0 → typed_over defs q f ≡ Ok t → IsWithin q t
unfolding typed_over answer
over_within defs q f t none is =
    let conditions = then_ok (filter (on_rows defs f.called) q.filter) _ t is in
    let groups = then_ok (groups_of defs f.called q) _ t conditions.2 in
    let s = scope_of defs f.called groups.0 (is_grouped q) in
    let answered = then_ok (answer s q) _ t groups.2 in
    let x = then_ok (shown_of s q.list []) _ answered.0 answered.1 in
    let y = then_ok (having s q.having x.0.1) _ answered.0 x.2 in
    let z = then_ok (keys s x.0.0.names [] q.order) _ answered.0 y.2 in
    let all = answered_with x.0.0 y.0.0 y.0.1 z.0 in
    let made = query_of f conditions.0 groups.0 all in
    let same : made ≡ t = ap (query_of f conditions.0 groups.0) (ok_same all answered.0 z.2) ∙ ok_same (query_of f conditions.0 groups.0 answered.0) t answered.2 in
    let few = (filter_made (on_rows defs f.called) q.filter).most conditions.0 conditions.1 in
    let most = bounded s q x.0.0 y.0.0 x.0.1 y.0.1 x.1 y.1 in
    let most_nodes = most.nodes in
    let most_count = most.count in
    let nodes_same : query_nodes made ≡ query_nodes t = ap query_nodes same in
    let count_same : length made.aggregates ≡ length t.aggregates = ap (λ (u : TypedQuery). length u.aggregates) same in
    record {
      nodes = omega (arith, none, few, most_nodes, nodes_same, totals made);
      count = omega (arith, most_count, count_same);
    }

query_within : (defs : List TableDef) (q : Query) (t : TypedQuery) → typed_query q defs ≡ Ok t → IsWithin q t
unfolding typed_query
query_within defs q t is =
    let x = then_ok (tables_of defs q.source) _ t is in
    over_within defs q x.0 t ((tables_made defs q.source).most x.0 x.1) x.2

pub size_law : SizeLaw
size_law text q defs t reads is =
    let within = query_within defs q t is in
    let most = within.nodes in
    let count = within.count in
    let few = (query_weighs all text 64).most (query_tokens text) q reads.1 in
    (omega (arith, most, few, tokens_few text), omega (arith, count, few, tokens_few text))
