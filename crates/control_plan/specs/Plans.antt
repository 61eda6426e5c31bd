-- Control plans: what a query's program is made with, and how it is run, where the query's answer leaves that open.
-- The control vectors are those of the Voodoo paper (PVLDB 9(14), 2016), section 2; which ones a plan has is this project's own.
use Rattle.std.specs.Prelude.{ℕ, pos, ◌^◌, ◌≤◌, List, [], length, Option, None}
use Rattle.control_vectors.specs.Controls.{Control, control_of}
use Rattle.control_plan.specs.declared.choices.Grouping.{Grouping}
use Rattle.control_plan.specs.declared.choices.Grouping.TheVariants.{Sort}
use Rattle.control_plan.specs.declared.choices.Kernel.{Kernel}
use Rattle.control_plan.specs.declared.choices.Kernel.TheVariants.{Scalar}
use Rattle.control_plan.specs.declared.choices.Split.{Split}
use Rattle.control_plan.specs.declared.choices.Split.TheVariants.{Even}

pub record PlanValue : Type 0 where
  -- the runs in which rows are selected
  pub select : Control
  -- by what rows are partitioned before they are aggregated, if they are
  pub layout : Option Control
  -- the runs of the folds that each aggregate passes before its last
  pub levels : List Control
  -- how the rows of a group are brought together
  pub group : Grouping
  -- what evaluates folds, how their work is split between workers, and into pieces of how many slots
  pub kernel : Kernel
  pub split : Split
  pub piece : ℕ

abbrev pub plan_of : Control → Option Control → List Control → Grouping → Kernel → Split → ℕ → PlanValue
plan_of select layout levels group kernel split piece =
    record { select = select; layout = layout; levels = levels; group = group; kernel = kernel; split = split; piece = piece }

-- the limits that every plan keeps
pub record IsPlan (p : PlanValue) : Type 0 where
  pub levels_to : length p.levels ≤ 4
  pub piece_from : 1 ≤ p.piece
  pub piece_to : p.piece ≤ 2 ^ 20

-- 0 at every place, so that all places are one run
abbrev pub constant : Control
constant = control_of (pos 0) 0 0 1

-- the plan where none is given
abbrev pub usual : PlanValue
usual = plan_of constant None [] Sort Scalar Even 4096
