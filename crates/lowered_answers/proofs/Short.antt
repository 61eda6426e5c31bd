-- A plan's program has no more statements than a program may have.
use Rattle.std.proofs.Common.{◌≡◌, ℕ, ◌+◌, ◌*◌, ◌≤◌, Bool, true, false, List, [], ◌∷◌, ◌++◌, length, sym, ap, subst, length-append, option_to_list, Option, Some, None, arith}
use Rattle.std.specs.Prelude.{codes}
use Rattle.std.specs.List.{sum_by, flat_map}
use Rattle.std.proofs.lemmas.List.Sums.{sum_by-append, sum_by-cons}
use Rattle.programs.specs.declared.op.Op.TheVariants as op
use Rattle.sql_read.specs.declared.definition.TableDef.{TableDef}
use Rattle.typed_trees.specs.declared.typed.Aggregate.{Aggregate}
use Rattle.typed_trees.specs.declared.typed.PlanSource.{PlanSource}
use Rattle.typed_trees.specs.declared.typed.TypedExpr.{TypedExpr}
use Rattle.query_sizes.specs.Sizes.{nodes}
use Rattle.rel_plan.specs.Plans.{arguments_of}
use Rattle.expr_counts.specs.Counts.{NodeLaw, CountLaw}
use Rattle.program_writers.specs.Writers.{◌>>=◌, statement}
use Rattle.writer_runs.specs.Laws.{with_result}
use Rattle.plan_programs.specs.Sites.{Base}
use Rattle.plan_programs.specs.Rows.{rows_of, kept}
use Rattle.plan_programs.specs.Groups.{grouped}
use Rattle.plan_programs.specs.Items.{items_of, in_order}
use Rattle.plan_programs.specs.Lowered.{defined_rows, from_rows, stands_on}
use Rattle.lowered_answers.proofs.Bodies.{items_on, behind_where, behind_rows, body}
use Rattle.lowered_answers.proofs.Counts.{count, count_then, cost, argument_cost, aggregate_cost, rows_most, kept_most, grouped_most, items_most, order_most}
use Rattle.lowered_answers.proofs.Runs.{Given, texts, few_columns}

pub record SizeLaws : Type 0 where
  pub nodes_law : NodeLaw
  pub count_law : CountLaw

-- ---- by their nodes

costs_most : NodeLaw → (es : List TypedExpr) → sum_by cost es ≤ 5 * sum_by nodes es
costs_most law [] = omega arith
costs_most law (e ∷ es) = omega (arith, law e, costs_most law es, sum_by-cons cost e es, sum_by-cons nodes e es)

argument_is : (x : Option TypedExpr) → argument_cost x ≤ 4 * sum_by nodes (option_to_list x) + 1
argument_is None = omega arith
argument_is (Some e) = omega (arith, sum_by-cons nodes e [])

aggregates_most : (aggregates : List Aggregate) → sum_by aggregate_cost aggregates ≤ 4 * sum_by nodes (arguments_of aggregates) + 11 * length aggregates
aggregates_most [] = omega arith
aggregates_most (a ∷ aggregates) = omega (arith, argument_is a.argument, aggregates_most aggregates, sum_by-append nodes (option_to_list a.argument) (arguments_of aggregates), sum_by-cons aggregate_cost a aggregates)

-- ---- part by part

from_most : SizeLaws → (g : Given) (k : ℕ) → count (from_rows g.select (texts g) g.defs g.plan.sources) k ≤ 71 + 5 * sum_by nodes g.source.filter
from_most laws g k =
    subst (λ (l : List PlanSource). count (from_rows g.select (texts g) g.defs l) k ≤ 71 + 5 * sum_by nodes g.source.filter) (sym g.over.only)
    (subst (λ (d : Option TableDef). count (defined_rows d g.source.columns >>= λ b. kept g.select (texts g) b g.source.filter) k ≤ 71 + 5 * sum_by nodes g.source.filter) (sym g.over.defined)
    (omega (
      arith,
      count_then (rows_of g.def 0 g.source.columns) (λ b. kept g.select (texts g) b g.source.filter) k,
      rows_most g.def 0 g.source.columns k,
      few_columns g,
      kept_most laws.count_law g.select (texts g) (rows_of g.def 0 g.source.columns k).told g.source.filter (rows_of g.def 0 g.source.columns k).next,
      costs_most laws.nodes_law g.source.filter,
    )))

stands_most : SizeLaws → (g : Given) (q : Bool) (b : Base) (k : ℕ) → count (stands_on g.select (texts g) g.plan q b) k ≤ 13 + 3 * length g.plan.groups + 4 * sum_by nodes (arguments_of g.plan.aggregates) + 11 * length g.plan.aggregates + 5 * sum_by nodes (option_to_list g.plan.having)
stands_most laws g false b k = omega arith
stands_most laws g true b k =
    let m = grouped (texts g) b g.plan.groups g.plan.aggregates k in
    omega (
      arith,
      count_then (grouped (texts g) b g.plan.groups g.plan.aggregates) (λ c. kept g.select (texts g) c (option_to_list g.plan.having)) k,
      grouped_most laws.count_law (texts g) b g.plan.groups g.plan.aggregates k,
      aggregates_most g.plan.aggregates,
      kept_most laws.count_law g.select (texts g) m.told (option_to_list g.plan.having) m.next,
      costs_most laws.nodes_law (option_to_list g.plan.having),
    )

answer_most : SizeLaws → (g : Given) (b : Base) (k : ℕ) → count (items_on (texts g) g.plan b) k ≤ 4 + 5 * sum_by nodes g.plan.items + length g.plan.order
answer_most laws g b k =
    let v = items_of (texts g) b g.plan.items k in
    omega (
      arith,
      count_then (items_of (texts g) b g.plan.items) (λ x. in_order b x g.plan.order) k,
      items_most laws.count_law (texts g) b g.plan.items k,
      costs_most laws.nodes_law g.plan.items,
      order_most b v.told g.plan.order v.next,
    )

-- ---- the whole

-- the nodes of the plan, clause by clause
nodes_are : (g : Given) → sum_by nodes g.plan.filter + (sum_by nodes g.source.filter + (sum_by nodes (arguments_of g.plan.aggregates) + (sum_by nodes (option_to_list g.plan.having) + sum_by nodes g.plan.items))) ≤ 2176
nodes_are g =
    let sources = flat_map (λ s. s.filter) g.plan.sources in
    let one : sum_by nodes sources ≡ sum_by nodes (g.source.filter ++ []) = ap (λ (l : List PlanSource). sum_by nodes (flat_map (λ s. s.filter) l)) g.over.only in
    omega (
      arith,
      g.can.small.nodes,
      one,
      sum_by-append nodes g.source.filter [],
      sum_by-append nodes g.plan.filter (sources ++ (arguments_of g.plan.aggregates ++ (option_to_list g.plan.having ++ g.plan.items))),
      sum_by-append nodes sources (arguments_of g.plan.aggregates ++ (option_to_list g.plan.having ++ g.plan.items)),
      sum_by-append nodes (arguments_of g.plan.aggregates) (option_to_list g.plan.having ++ g.plan.items),
      sum_by-append nodes (option_to_list g.plan.having) g.plan.items,
    )

pub program_short : SizeLaws → (g : Given) → length (with_result (body g.select (texts g) g.defs g.plan 0).statements (codes "answer") (body g.select (texts g) g.defs g.plan 0).told) ≤ 65536
program_short laws g =
    let m = from_rows g.select (texts g) g.defs g.plan.sources in
    let b = (m 0).told in
    let k = (m 0).next in
    let n = kept g.select (texts g) b g.plan.filter in
    let c = (n k).told in
    let l = (n k).next in
    let o = stands_on g.select (texts g) g.plan g.plan.grouped c in
    let w = body g.select (texts g) g.defs g.plan 0 in
    omega (
      arith,
      length-append w.statements (statement (codes "answer") (op.Persist w.told) ∷ []),
      count_then m (behind_rows g.select (texts g) g.plan) 0,
      count_then n (behind_where g.select (texts g) g.plan) k,
      count_then o (items_on (texts g) g.plan) l,
      from_most laws g 0,
      kept_most laws.count_law g.select (texts g) b g.plan.filter k,
      costs_most laws.nodes_law g.plan.filter,
      stands_most laws g g.plan.grouped c l,
      answer_most laws g (o l).told (o l).next,
      nodes_are g,
      g.can.small.aggregates,
      g.can.well_formed.few_groups,
      g.can.well_formed.few_keys,
    )
