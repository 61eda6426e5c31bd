-- The law of the closed operations: each is the operator by a number on the listed values, one by one (Voodoo, PVLDB 9(14), 2016, section 2.2).
use Rattle.std.specs.Prelude.{◌≡◌, ℕ, ℤ, pos, ◌+ℤ◌, ◌*ℤ◌, int_div, map, Some}
use Rattle.std.specs.Int.{int_rem_euclid}
use Rattle.control_vectors.specs.Controls.{Control, control_list}
use Rattle.control_vectors.specs.Closed.{shifted_control, scaled_control, divided_control, reduced_control}

pub record ClosedLaws : Type 0 where
  pub shifted : (c d : Control) (k : ℤ) (n : ℕ) → shifted_control c k ≡ Some d → control_list d n ≡ map (λ z. z +ℤ k) (control_list c n)
  pub scaled : (c d : Control) (k n : ℕ) → scaled_control c k ≡ Some d → control_list d n ≡ map (λ z. z *ℤ pos k) (control_list c n)
  pub divided : (c d : Control) (m n : ℕ) → divided_control c m ≡ Some d → control_list d n ≡ map (λ z. int_div z (pos m)) (control_list c n)
  pub reduced : (c d : Control) (m n : ℕ) → reduced_control c m ≡ Some d → control_list d n ≡ map (λ z. int_rem_euclid z (pos m)) (control_list c n)
