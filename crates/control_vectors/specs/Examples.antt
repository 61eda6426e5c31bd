-- Worked examples of runs, of the lists that four numbers give, and of the closed operations.
use Rattle.std.specs.Prelude.{◌≡◌, ℕ, ◌^◌, ℤ, pos, neg_ℤ, List, [], ◌∷◌, map, Option, Some, None}
use Rattle.control_vectors.specs.Slots.{Slot}
use Rattle.control_vectors.specs.Controls.{Control, control_of, control_list}
use Rattle.control_vectors.specs.Closed.{shifted_control, scaled_control, divided_control, reduced_control}
use Rattle.control_vectors.specs.Runs.{run_marks, run_starts, runs, side_by_side}

-- numbers as slots, none of which is empty
abbrev pub all_there : List ℤ → List Slot
all_there zs = map (λ z. Some z) zs

-- 0, 0, 0, 1, 1, 2
abbrev pub three_runs : List Slot
three_runs = all_there (pos 0 ∷ pos 0 ∷ pos 0 ∷ pos 1 ∷ pos 1 ∷ pos 2 ∷ [])

-- empty, empty, 0, 0, empty
abbrev pub with_empties : List Slot
with_empties = None ∷ None ∷ Some (pos 0) ∷ Some (pos 0) ∷ None ∷ []

-- from 0 in steps of 2, divided by 3
abbrev pub two_thirds : Control
two_thirds = control_of (pos 0) 2 0 3

pub record RunExamples : Type 0 where
  -- a run begins at 0, and where the number is another than before
  pub starts : run_starts (side_by_side 6 (three_runs ∷ [])) ≡ 0 ∷ 3 ∷ 5 ∷ []
  -- its stretches
  pub stretches : runs {A = ℕ} (run_marks (side_by_side 6 (three_runs ∷ []))) (0 ∷ 1 ∷ 2 ∷ 3 ∷ 4 ∷ 5 ∷ []) ≡ (0 ∷ 1 ∷ 2 ∷ []) ∷ (3 ∷ 4 ∷ []) ∷ (5 ∷ []) ∷ []
  -- empties equal empties, and no number
  pub empties : run_starts (side_by_side 5 (with_empties ∷ [])) ≡ 0 ∷ 2 ∷ 4 ∷ []
  -- tuples differ where any of their slots does, be it the second alone
  pub pairs : run_starts (side_by_side 4 (all_there (pos 7 ∷ pos 7 ∷ pos 7 ∷ pos 8 ∷ []) ∷ all_there (pos 1 ∷ pos 2 ∷ pos 2 ∷ pos 2 ∷ []) ∷ [])) ≡ 0 ∷ 1 ∷ 3 ∷ []
  -- tuples without a slot are all equal, and no tuples have no run
  pub units : run_starts (side_by_side 3 []) ≡ 0 ∷ []
  pub nothing : run_starts [] ≡ []

pub record ControlExamples : Type 0 where
  pub values : control_list two_thirds 7 ≡ pos 0 ∷ pos 0 ∷ pos 1 ∷ pos 2 ∷ pos 2 ∷ pos 3 ∷ pos 4 ∷ []
  pub starts : run_starts (side_by_side 7 (all_there (control_list two_thirds 7) ∷ [])) ≡ 0 ∷ 2 ∷ 3 ∷ 5 ∷ 6 ∷ []
  -- from -1, divided by 2, the rest of 3
  pub rest : control_list (control_of (neg_ℤ (pos 1)) 1 3 2) 8 ≡ neg_ℤ (pos 1) ∷ neg_ℤ (pos 1) ∷ pos 0 ∷ pos 0 ∷ pos 1 ∷ pos 1 ∷ neg_ℤ (pos 1) ∷ neg_ℤ (pos 1) ∷ []

-- 6, 8, 10, 6, 8, 10, ..: from 6 in steps of 2, the rest of 6
abbrev pub in_twos : Control
in_twos = control_of (pos 6) 2 6 1

abbrev pub some_list : Option Control → List ℤ
some_list None = []
some_list (Some c) = control_list c 4

pub record ClosedExamples : Type 0 where
  pub before : control_list in_twos 4 ≡ pos 6 ∷ pos 8 ∷ pos 10 ∷ pos 6 ∷ []
  pub added : some_list (shifted_control in_twos (neg_ℤ (pos 7))) ≡ neg_ℤ (pos 1) ∷ pos 1 ∷ pos 3 ∷ neg_ℤ (pos 1) ∷ []
  pub multiplied : some_list (scaled_control in_twos 5) ≡ pos 30 ∷ pos 40 ∷ pos 50 ∷ pos 30 ∷ []
  pub halved : some_list (divided_control in_twos 2) ≡ pos 3 ∷ pos 4 ∷ pos 5 ∷ pos 3 ∷ []
  -- 0, 2, 4, 0, 2, 4, .. by 3
  pub rest : some_list (reduced_control (control_of (pos 0) 2 6 1) 3) ≡ pos 0 ∷ pos 2 ∷ pos 1 ∷ pos 0 ∷ []
  -- the start leaves its range; and so do the numbers of a product
  pub too_far : shifted_control in_twos (pos (2 ^ 62)) ≡ None
  pub too_wide : scaled_control (control_of (pos 0) 1 2 1) (2 ^ 31) ≡ None
  -- a product by 0, and one of quotients
  pub no_product : scaled_control in_twos 0 ≡ None
  pub of_quotients : scaled_control two_thirds 3 ≡ None
  -- 4 divides neither 6; below 0 a quotient is truncated towards 0
  pub no_divisor : divided_control in_twos 4 ≡ None
  pub below : divided_control (control_of (neg_ℤ (pos 6)) 2 6 1) 2 ≡ None
  pub by_nothing : divided_control in_twos 0 ≡ None
  -- 6 is no multiple of 4; a start other than 0
  pub no_multiple : reduced_control (control_of (pos 0) 2 6 1) 4 ≡ None
  pub elsewhere : reduced_control in_twos 3 ≡ None
