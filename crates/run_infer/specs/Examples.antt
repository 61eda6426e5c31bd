-- Worked examples of what is inferred, and of the starts of runs.
use Rattle.std.specs.Prelude.{◌≡◌, ℕ, neg_ℤ, pos, true, false, List, [], ◌∷◌, Some, None}
use Rattle.control_vectors.specs.Controls.{Control, control_of}
use Rattle.control_vectors.specs.Runs.{run_marks, run_starts, side_by_side}
use Rattle.run_infer.specs.declared.inferring.Runs.TheVariants.{One, Uniform, ByValue}
use Rattle.run_infer.specs.Inferred.{inferred, tuples_of}
use Rattle.run_infer.specs.Marks.{starts_of}

-- from 0 in steps, the quotient's rest
abbrev pub from_0 : ℕ → ℕ → ℕ → Control
from_0 step modulus divisor = control_of (pos 0) step modulus divisor

-- where the runs of the first 7 values begin
abbrev pub starts_of_7 : Control → List ℕ
starts_of_7 c = run_starts (tuples_of c 7)

pub record InferredExamples : Type 0 where
  -- 0, 0, 0, 1, 1, 1, 2
  pub thirds : inferred (from_0 1 0 3) ≡ Uniform 3
  pub thirds_begin : starts_of_7 (from_0 1 0 3) ≡ 0 ∷ 3 ∷ 6 ∷ []
  -- 0, 0, 1, 2, 2, 3, 4: the divisor is no length of a run
  pub two_thirds : inferred (from_0 2 0 3) ≡ ByValue
  pub two_thirds_begin : starts_of_7 (from_0 2 0 3) ≡ 0 ∷ 2 ∷ 3 ∷ 5 ∷ 6 ∷ []
  -- 0, 0, 1, 1, 2, 2, 3: in steps of 2, divided by 4
  pub halves : inferred (from_0 2 0 4) ≡ Uniform 2
  pub halves_begin : starts_of_7 (from_0 2 0 4) ≡ 0 ∷ 2 ∷ 4 ∷ 6 ∷ []
  -- 5 everywhere: in steps of 4, divided by 2, the rest by 2
  pub evens : inferred (control_of (pos 5) 4 2 2) ≡ One
  pub evens_begin : starts_of_7 (control_of (pos 5) 4 2 2) ≡ 0 ∷ []
  -- 0, 2, 1, 0, 2, 1, 0: the same, the rest by 3
  pub around : inferred (from_0 4 3 2) ≡ Uniform 1
  pub around_begin : starts_of_7 (from_0 4 3 2) ≡ 0 ∷ 1 ∷ 2 ∷ 3 ∷ 4 ∷ 5 ∷ 6 ∷ []
  -- -1, -1, -1, 0, 0, 0, -1: the rest by 2 cuts no run
  pub two_by_two : inferred (control_of (neg_ℤ (pos 1)) 1 2 3) ≡ Uniform 3
  pub two_by_two_begin : starts_of_7 (control_of (neg_ℤ (pos 1)) 1 2 3) ≡ 0 ∷ 3 ∷ 6 ∷ []
  -- 0 everywhere: no step, and the rest by 1
  pub no_step : inferred (from_0 0 0 3) ≡ One
  pub no_rest : inferred (from_0 1 1 3) ≡ One
  pub no_rest_begins : starts_of_7 (from_0 1 1 3) ≡ 0 ∷ []
  -- no values, no run
  pub nothing : run_starts (tuples_of (from_0 1 0 3) 0) ≡ []

pub record MarkExamples : Type 0 where
  pub marked : starts_of (true ∷ false ∷ false ∷ true ∷ true ∷ []) ≡ 0 ∷ 3 ∷ 4 ∷ []
  pub unmarked : starts_of [] ≡ []
  -- 7, 7, 7, 8 beside empty, empty, 0, 0
  pub side_by_side_begin : starts_of (run_marks (side_by_side 4 ((Some (pos 7) ∷ Some (pos 7) ∷ Some (pos 7) ∷ Some (pos 8) ∷ []) ∷ (None ∷ None ∷ Some (pos 0) ∷ Some (pos 0) ∷ []) ∷ []))) ≡ 0 ∷ 2 ∷ 3 ∷ []
  -- tuples without a slot are one run, and no tuples are none
  pub units : starts_of (run_marks (side_by_side 3 [])) ≡ 0 ∷ []
  pub no_units : starts_of (run_marks (side_by_side 0 [])) ≡ []
