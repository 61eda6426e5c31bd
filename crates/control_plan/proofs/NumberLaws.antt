-- Numbers of at most 19 digits, and what is admissible.
use Rattle.std.proofs.Common.{◌≡◌, ℕ, suc, ◌+◌, ◌-◌, ◌*◌, ◌^◌, ◌<◌, ◌≤◌, ℤ, pos, negsuc, neg_ℤ, Bool, true, false, ◌&&◌, refl, ap, ◌∙◌, arith, rules, Err, FitsSigned}
use Rattle.std.specs.Prelude.{int_le, nat_le}
use Rattle.std.specs.Int.{FitsUnsigned, w64}
use Rattle.std.proofs.lemmas.Bool.{false≢true, false_from_ne_true, leb-true}
use Rattle.std.proofs.lemmas.Int.{ints}
use Rattle.std.proofs.Math.Nat.{pow-le-pow_right, pow-succ'}
use Rattle.control_vectors.specs.Controls.{control_of}
use Rattle.control_vectors.specs.Closed.{is_admissible}
use Rattle.control_plan.specs.declared.refusal.ControlKind.TheVariants.{NotAdmissible}
use Rattle.control_plan.specs.Numbers.{admitted}

-- they stay below 2^64
pub few_digits : (value k d : ℕ) → value < 10 ^ k → k < 19 → d < 10 → value * 10 + d < 2 ^ 64
few_digits value k d below few small =
    let less : k ≤ 18 = omega arith in
    let most : 10 ^ k ≤ 10 ^ 18 = pow-le-pow_right {n = 10} (omega arith) less in
    omega arith

pub digit_more : (value k d : ℕ) → value < 10 ^ k → d < 10 → value * 10 + d < 10 ^ (k + 1)
digit_more value k d below small =
    let more : k + 1 ≡ suc k = omega arith in
    let power : 10 ^ (k + 1) ≡ 10 * 10 ^ k = ap (λ n. 10 ^ n) more ∙ pow-succ' 10 k in
    omega arith

-- ---- what is admissible has 64 bits
all_six : (a b c d e f : Bool) → (a && b && c && d && e && f) ≡ true → (a ≡ true) × (b ≡ true) × (c ≡ true) × (d ≡ true) × (e ≡ true) × (f ≡ true)
all_six true true true true true true h = (refl, refl, refl, refl, refl, refl)
all_six true true true true true false h = absurd (false≢true h)
all_six true true true true false f h = absurd (false≢true h)
all_six true true true false e f h = absurd (false≢true h)
all_six true true false d e f h = absurd (false≢true h)
all_six true false c d e f h = absurd (false≢true h)
all_six false b c d e f h = absurd (false≢true h)

within : (z : ℤ) → int_le (neg_ℤ (pos (2 ^ 62))) z ≡ true → int_le z (pos (2 ^ 62)) ≡ true → FitsSigned w64 z
within (pos n) from to = let few : n ≤ 2 ^ 62 = leb-true n (2 ^ 62) to in search (rules, ints)
within (negsuc n) from to = let few : n ≤ 2 ^ 62 - 1 = leb-true n (2 ^ 62 - 1) from in search (rules, ints)

-- a number of an admissible control vector
record Admitted (start : ℤ) (step modulus divisor : ℕ) : Type 0 where
  start_fits : FitsSigned w64 start
  step_to : step ≤ 2 ^ 31
  modulus_to : modulus ≤ 2 ^ 31
  divisor_to : divisor ≤ 2 ^ 31

admitted_fits : (start : ℤ) (step modulus divisor : ℕ) → is_admissible (control_of start step modulus divisor) ≡ true → Admitted start step modulus divisor
admitted_fits start step modulus divisor e =
    let six = all_six (int_le (neg_ℤ (pos (2 ^ 62))) start) (int_le start (pos (2 ^ 62))) (nat_le step (2 ^ 31)) (nat_le modulus (2 ^ 31)) (nat_le 1 divisor) (nat_le divisor (2 ^ 31)) e in
    record {
      start_fits = within start six.0 six.1;
      step_to = leb-true step (2 ^ 31) six.2;
      modulus_to = leb-true modulus (2 ^ 31) six.3;
      divisor_to = leb-true divisor (2 ^ 31) six.5;
    }

not_admitted : (start step modulus divisor : ℤ) → ((a b c : ℕ) → step ≡ pos a → modulus ≡ pos b → divisor ≡ pos c → Admitted start a b c → ⊥) → Err NotAdmissible ≡ admitted start step modulus divisor
not_admitted start (negsuc a) modulus divisor wide = refl
not_admitted start (pos a) (negsuc b) divisor wide = refl
not_admitted start (pos a) (pos b) (negsuc c) wide = refl
not_admitted start (pos a) (pos b) (pos c) wide = rw (false_from_ne_true (is_admissible (control_of start a b c)) (λ t. wide a b c refl refl refl (admitted_fits start a b c t))) refl

fits : (n : ℕ) → n ≤ 2 ^ 31 → FitsUnsigned w64 (pos n)
fits n h = search (rules, ints)

pub wide_start : (start step modulus divisor : ℤ) → (FitsSigned w64 start → ⊥) → Err NotAdmissible ≡ admitted start step modulus divisor
wide_start start step modulus divisor wide = not_admitted start step modulus divisor (λ a b c e f g h. wide h.start_fits)

pub wide_step : (start step modulus divisor : ℤ) → (FitsUnsigned w64 step → ⊥) → Err NotAdmissible ≡ admitted start step modulus divisor
wide_step start step modulus divisor wide = not_admitted start step modulus divisor (λ a b c e f g h. wide (rw e (fits a h.step_to)))

pub wide_modulus : (start step modulus divisor : ℤ) → (FitsUnsigned w64 modulus → ⊥) → Err NotAdmissible ≡ admitted start step modulus divisor
wide_modulus start step modulus divisor wide = not_admitted start step modulus divisor (λ a b c e f g h. wide (rw f (fits b h.modulus_to)))

pub wide_divisor : (start step modulus divisor : ℤ) → (FitsUnsigned w64 divisor → ⊥) → Err NotAdmissible ≡ admitted start step modulus divisor
wide_divisor start step modulus divisor wide = not_admitted start step modulus divisor (λ a b c e f g h. wide (rw g (fits c h.divisor_to)))
