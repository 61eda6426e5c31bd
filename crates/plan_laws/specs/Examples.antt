-- Why a condition that can overflow stays where it is, worked out by hand over t (k, a) with the one row 1, 9223372036854775807, and u (id) with one row.
use Rattle.std.specs.Prelude.{◌≡◌, ℕ, false, List, [], ◌∷◌, Some, None, Ok, Err}
use Rattle.control_vectors.specs.Slots.{over}
use Rattle.query_trees.specs.declared.expr.BinaryOp.TheVariants as op
use Rattle.table_load.specs.Values.{Table}
use Rattle.typed_trees.specs.declared.typed.TypedExpr.{TypedExpr}
use Rattle.typed_trees.specs.declared.typed.TypedExpr.TheVariants as e
use Rattle.query_answers.specs.Examples.{table_of, int, column, integer, times, first}
use Rattle.rel_plan.specs.declared.plans.RelPlan.{RelPlan}
use Rattle.rel_plan.specs.Pushes.{moved}
use Rattle.plan_laws.specs.PlanAnswers.{plan_answer}

abbrev pub tables : ℕ → List Table
tables id = table_of 2 ((int 1 ∷ int 9223372036854775807 ∷ []) ∷ []) ∷ table_of 1 ((int id ∷ []) ∷ []) ∷ []

-- SELECT t.a FROM t JOIN u ON t.k = u.id, with such conditions of WHERE
abbrev pub joined : List TypedExpr → RelPlan
joined parts = record { sources = first 0 ∷ record (first 1) { join = Some (column 0, 0) } ∷ []; filter = parts; grouped = false; groups = []; aggregates = []; having = None; items = integer 1 ∷ []; order = [] }

-- a > 0, and a*a*a > 0
abbrev pub positive : TypedExpr → TypedExpr
positive x = e.Binary op.Greater x (e.Number 0 0)

abbrev pub narrow : RelPlan
narrow = joined (positive (integer 1) ∷ [])

abbrev pub wide : RelPlan
wide = joined (positive (times (times (integer 1) (integer 1)) (integer 1)) ∷ [])

pub record MovedConditions : Type 0 where
  -- the condition is asked of a pair
  pub over_a_pair : plan_answer (tables 1) wide ≡ Err over
  -- asked of t's row alone, which it then drops, it would be Over on no pair
  pub moved_all_the_same : plan_answer (tables 1) (moved wide) ≡ Ok []
  -- it is asked of no row where there is no pair
  pub no_pair : plan_answer (tables 2) wide ≡ Ok []
  -- one that cannot overflow
  pub narrow_stays : plan_answer (tables 1) narrow ≡ Ok ((int 9223372036854775807 ∷ []) ∷ [])
  pub narrow_moves : plan_answer (tables 1) (moved narrow) ≡ Ok ((int 9223372036854775807 ∷ []) ∷ [])
