-- Plans of queries: the plan that a query stands for as it is written, and the expressions of a plan.
-- After SQL-92 (ISO/IEC 9075:1992), 7.4 <from clause> to 7.9 <query specification>.
use Rattle.std.specs.Prelude.{Bool, not, ◌==◌, ◌||◌, List, ◌++◌, length, flat_map, option_to_list}
use Rattle.typed_trees.specs.declared.typed.Aggregate.{Aggregate}
use Rattle.typed_trees.specs.declared.typed.PlanSource.{PlanSource}
use Rattle.typed_trees.specs.declared.typed.TypedExpr.{TypedExpr}
use Rattle.typed_trees.specs.declared.typed.TypedQuery.{TypedQuery}
use Rattle.rel_plan.specs.declared.plans.RelPlan.{RelPlan}

-- a query with GROUP BY, DISTINCT or an aggregate is answered by groups
abbrev pub is_grouped : TypedQuery → Bool
is_grouped q = not (length q.groups == 0) || not (length q.aggregates == 0)

abbrev pub plan_of : TypedQuery → RelPlan
plan_of q = record {
  sources = q.sources;
  filter = q.filter;
  grouped = is_grouped q;
  groups = q.groups;
  aggregates = q.aggregates;
  having = q.having;
  items = q.items;
  order = q.order;
}

-- ---- the expressions of a plan

-- the conditions on each source's rows alone
abbrev pub conditions_of_sources : List PlanSource → List TypedExpr
conditions_of_sources = flat_map (λ s. s.filter)

abbrev pub arguments_of : List Aggregate → List TypedExpr
arguments_of = flat_map (λ a. option_to_list a.argument)

abbrev pub expressions : RelPlan → List TypedExpr
expressions p = p.filter ++ (conditions_of_sources p.sources ++ (arguments_of p.aggregates ++ (option_to_list p.having ++ p.items)))
