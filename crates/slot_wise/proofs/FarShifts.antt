-- Numbers that are shifted by more than 127 places.
use Rattle.std.proofs.Common.{◌≡◌, ℕ, zero, suc, ◌+◌, ◌-◌, ◌^◌, ◌<◌, ◌≤◌, ◌/◌, ℤ, pos, negsuc, neg_ℤ, ◌*ℤ◌, ◌≤ℤ◌, false, ap, sym, refl, ◌∙◌, arith, FitsSigned, Err}
use Rattle.std.specs.Int.{w128}
use Rattle.std.proofs.lemmas.Int.{ints}
use Rattle.std.proofs.lemmas.Bool.Decides.{nat_tests}
use Rattle.std.proofs.Math.Nat.{div-eq_of_lt, pow-le-pow_right}
use Rattle.control_vectors.specs.Slots.{over, fits_128, fitted}
use Rattle.control_vectors.specs.Numbers.{shifted}
use Rattle.control_vectors.proofs.NumberLaws.{fits_128_part, times_powers}

past : (z : ℤ) → (z ≡ pos 0 → ⊥) → fits_128 (z *ℤ pos (2 ^ 128)) ≡ false
past (pos zero) h = absurd (h refl)
past (pos (suc n)) h = grind (arith, ints, nat_tests)
past (negsuc n) h = grind (arith, ints, nat_tests)

pub far_left_over : (z k : ℤ) → pos 128 ≤ℤ k → (z ≡ pos 0 → ⊥) → fitted (shifted z k) ≡ Err over
far_left_over z (pos k) h ne =
    let split : 128 + (k - 128) ≡ k = omega (arith, ints) in
    let out : fits_128 (z *ℤ pos (2 ^ k)) ≡ false = ap fits_128 (sym (times_powers z k 128 (k - 128) split)) ∙ fits_128_part (z *ℤ pos (2 ^ 128)) (k - 128) (past z ne) in
    rw out refl
far_left_over z (negsuc k) h ne = absurd (omega (arith, ints))

nothing_left : (n k : ℕ) → n < 2 ^ 127 → 127 ≤ k → n / (2 ^ suc k) ≡ 0
nothing_left n k h l =
    let two : 0 < 2 = omega arith in
    let far : 127 ≤ suc k = omega arith in
    let least : 2 ^ 127 ≤ 2 ^ suc k = pow-le-pow_right two far in
    let below : n < 2 ^ suc k = omega (arith, least) in
    div-eq_of_lt below

pub far_right_up : (z k : ℤ) → k ≤ℤ neg_ℤ (pos 128) → FitsSigned w128 z → pos 0 ≤ℤ z → pos 0 ≡ shifted z k
far_right_up (pos n) (negsuc k) h f l = ap pos (sym (nothing_left n k (omega (arith, ints)) (omega (arith, ints))))
far_right_up (pos n) (pos k) h f l = absurd (omega (arith, ints))
far_right_up (negsuc n) k h f l = absurd (omega (arith, ints))

pub far_right_down : (z k : ℤ) → k ≤ℤ neg_ℤ (pos 128) → FitsSigned w128 z → z ≤ℤ negsuc 0 → negsuc 0 ≡ shifted z k
far_right_down (negsuc n) (negsuc k) h f l = ap negsuc (sym (nothing_left n k (omega (arith, ints)) (omega (arith, ints))))
far_right_down (negsuc n) (pos k) h f l = absurd (omega (arith, ints))
far_right_down (pos n) k h f l = absurd (omega (arith, ints))
