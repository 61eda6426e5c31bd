-- Quotients and rests of neighbours: when they differ.
use Rattle.std.proofs.Common.{◌≡◌, ℕ, zero, suc, ◌+◌, ◌-◌, ◌*◌, ◌/◌, ◌%◌, ◌<◌, ◌≤◌, Bool, true, false, sym, ap, ◌∙◌, arith, inl, inr}
use Rattle.std.specs.Prelude.{◌==◌, if◌then◌else◌}
use Rattle.std.proofs.lemmas.Bool.{cases_lt, eqb-true, eqb-false}
use Rattle.std.proofs.lemmas.Bool.Decides.{same_from_decides, Decides-eqb, Decides-like}
use Rattle.std.proofs.Math.Dec.{eqb-suc-zero}
use Rattle.std.proofs.Math.Nat.{div-add-mod, mul-mod_right, mul-le-mul_left, add-mod-mod, mul-div-mul_left, mul-div_cancel_left, mul_comm, mul_assoc}
use Rattle.std.proofs.lemmas.Nat.{mod_below, div-mul-add}
use Rattle.control_vectors.specs.Controls.{rest_of}
use Rattle.control_vectors.specs.Closed.{is_multiple}

-- a number that is added leaves the rest as it was exactly where the modulus divides it
rest_stays : (a b m : ℕ) → 0 < m → (a + b) % m ≡ a % m → b % m ≡ 0
rest_stays a b m h e = elim (cases_lt ((a + b) / m) (a / m)) [
  | inl less ↦
      let x = div-add-mod (a + b) m in
      let y = div-add-mod a m in
      let z = mul-le-mul_left m less in
      absurd (omega arith)
  | inr more ↦
      let x = div-add-mod (a + b) m in
      let y = div-add-mod a m in
      let k = (a + b) / m - a / m in
      let s : (a + b) / m ≡ a / m + k = omega arith in
      let t : m * ((a + b) / m) ≡ m * (a / m) + m * k = ap (λ q. m * q) s ∙ omega arith in
      let u : b ≡ m * k = omega arith in
      ap (λ n. n % m) u ∙ mul-mod_right m k
]

rest_same : (a b m : ℕ) → b % m ≡ 0 → (a + b) % m ≡ a % m
rest_same a b m e = sym (add-mod-mod a b m) ∙ ap (λ r. (a + r) % m) e ∙ ap (λ n. n % m) (let n : a + 0 ≡ a = omega arith in n)

-- whether a step leaves the rest as it was
abbrev pub leaves : ℕ → ℕ → Bool
leaves by m = if m == 0 then by == 0 else is_multiple by m

pub rests_alike : (q by m : ℕ) → (rest_of (q + by) m == rest_of q m) ≡ leaves by m
rests_alike q by zero = same_from_decides (q + by == q) (by == 0) (Decides-eqb (q + by) q) (Decides-like (by == 0) (λ e. omega arith) (λ e. omega arith) (Decides-eqb by 0))
rests_alike q by (suc m) =
    let n = suc m in
    rw (eqb-suc-zero m) (
    same_from_decides ((q + by) % n == q % n) (by % n == 0) (Decides-eqb ((q + by) % n) (q % n))
    (Decides-like (by % n == 0) (rest_same q by n) (rest_stays q by n (omega arith)) (Decides-eqb (by % n) 0))
    )

-- ---- quotients of neighbours
quotient_from : (n k q r : ℕ) → r < k → n ≡ q * k + r → n / k ≡ q
quotient_from n k q r h e = ap (λ m. m / k) e ∙ div-mul-add q k r h

-- they are one, unless the divisor divides the latter
pub quotient_same : (j k : ℕ) → 0 < k → is_multiple (suc j) k ≡ false → suc j / k ≡ j / k
quotient_same j k h e =
    let rest = eqb-false (suc j % k) 0 e in
    let whole = div-add-mod (suc j) k in
    let below = mod_below (suc j) k h in
    let turned = mul_comm k (suc j / k) in
    sym (quotient_from j k (suc j / k) (suc j % k - 1) (omega arith) (omega arith))

pub quotient_more : (j k : ℕ) → 0 < k → is_multiple (suc j) k ≡ true → suc j / k ≡ j / k + 1
quotient_more j k h e = by (suc j / k) (div-add-mod (suc j) k) (eqb-true (suc j % k) 0 e)
  where
    by : (q : ℕ) → k * q + suc j % k ≡ suc j → suc j % k ≡ 0 → q ≡ j / k + 1
    by zero whole none = absurd (omega arith)
    by (suc p) whole none =
        let turned = mul_comm k p in
        let last : j ≡ p * k + (k - 1) = omega arith in
        let here = quotient_from j k p (k - 1) (omega arith) last in
        omega arith

-- where the step divides the divisor, a quotient is that of the place
pub quotient_of_place : (i step divisor : ℕ) → 0 < step → is_multiple divisor step ≡ true → (i * step) / divisor ≡ i / (divisor / step)
quotient_of_place i step divisor h e =
    let none = eqb-true (divisor % step) 0 e in
    let whole : step * (divisor / step) ≡ divisor = omega (arith, div-add-mod divisor step) in
    ap (λ n. (i * step) / n) (sym whole) ∙ ap (λ n. n / (step * (divisor / step))) (mul_comm i step) ∙ mul-div-mul_left i (divisor / step) h

pub length_from : (step divisor : ℕ) → 1 ≤ divisor → is_multiple divisor step ≡ true → 1 ≤ divisor / step
length_from step divisor h e = by (divisor / step) (div-add-mod divisor step) (eqb-true (divisor % step) 0 e)
  where
    by : (q : ℕ) → step * q + divisor % step ≡ divisor → divisor % step ≡ 0 → 1 ≤ q
    by zero whole none = absurd (omega arith)
    by (suc p) whole none = omega arith

-- where the divisor divides the step, a quotient is a multiple
pub quotient_of_step : (i step divisor : ℕ) → 1 ≤ divisor → is_multiple step divisor ≡ true → (i * step) / divisor ≡ i * (step / divisor)
quotient_of_step i step divisor h e =
    let none = eqb-true (step % divisor) 0 e in
    let whole : divisor * (step / divisor) ≡ step = omega (arith, div-add-mod step divisor) in
    let turned : i * step ≡ divisor * (i * (step / divisor)) = ap (λ n. i * n) (sym whole) ∙ (sym (mul_assoc i divisor (step / divisor)) ∙ (ap (λ n. n * (step / divisor)) (mul_comm i divisor) ∙ mul_assoc divisor i (step / divisor))) in
    ap (λ n. n / divisor) turned ∙ mul-div_cancel_left (i * (step / divisor)) h

pub step_from : (step divisor : ℕ) → (step == 0) ≡ false → is_multiple step divisor ≡ true → 1 ≤ step / divisor
step_from step divisor h e = by (step / divisor) (div-add-mod step divisor) (eqb-true (step % divisor) 0 e) (eqb-false step 0 h)
  where
    by : (q : ℕ) → divisor * q + step % divisor ≡ step → step % divisor ≡ 0 → (step ≡ 0 → ⊥) → 1 ≤ q
    by zero whole none some = absurd (some (omega arith))
    by (suc p) whole none some = omega arith
