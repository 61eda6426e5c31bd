-- The sizes of plans: no plan has more nodes, or other aggregates, than its query.
use Rattle.std.specs.Prelude.{◌≡◌, ℕ, sum_by}
use Rattle.query_sizes.specs.Sizes.{nodes, query_nodes}
use Rattle.typed_trees.specs.declared.typed.TypedExpr.{TypedExpr}
use Rattle.typed_trees.specs.declared.typed.TypedQuery.{TypedQuery}
use Rattle.rel_plan.specs.declared.plans.RelPlan.{RelPlan}
use Rattle.rel_plan.specs.Plans.{plan_of, expressions}
use Rattle.rel_plan.specs.Pushes.{pushed}
use Rattle.rel_plan.specs.Prunes.{pruned}

-- what the expressions of a plan weigh together
abbrev pub weighs : (TypedExpr → ℕ) → RelPlan → ℕ
weighs weight p = sum_by weight (expressions p)

-- the nodes of a plan
abbrev pub plan_nodes : RelPlan → ℕ
plan_nodes = weighs nodes

pub record SizeLaws : Type 0 where
  pub planned : (q : TypedQuery) → plan_nodes (plan_of q) ≡ query_nodes q
  pub planned_aggregates : (q : TypedQuery) → (plan_of q).aggregates ≡ q.aggregates
  -- whatever its expressions weigh each, so each expression stands as often as before
  pub pushed_weighs : (weight : TypedExpr → ℕ) (p : RelPlan) → weighs weight (pushed p) ≡ weighs weight p
  pub pushed_aggregates : (p : RelPlan) → (pushed p).aggregates ≡ p.aggregates
  pub pruned_expressions : (p : RelPlan) → expressions (pruned p) ≡ expressions p
  pub pruned_aggregates : (p : RelPlan) → (pruned p).aggregates ≡ p.aggregates
