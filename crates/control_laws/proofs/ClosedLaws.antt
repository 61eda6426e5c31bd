-- The closed operations, value by value.
use Rattle.std.proofs.Common.{◌≡◌, ℕ, zero, suc, ◌+◌, ◌-◌, ◌*◌, ◌/◌, ◌%◌, ◌^◌, ◌<◌, ℤ, pos, negsuc, neg_ℤ, ◌+ℤ◌, ◌*ℤ◌, Bool, true, false, ◌&&◌, List, [], ◌∷◌, map, refl, sym, ap, ◌∙◌, arith, inl, inr, Option, Some, None}
use Rattle.std.specs.Prelude.{◌==◌, nat_le, int_div, if◌then◌else◌}
use Rattle.std.specs.Int.{int_rem_euclid}
use Rattle.std.specs.List.{range_with_len}
use Rattle.std.specs.Ordering.{int_eq}
use Rattle.std.proofs.lemmas.Int.{ints}
use Rattle.std.proofs.lemmas.Bool.{cases_lt, eqb-true, leb-true}
use Rattle.std.proofs.lemmas.Bool.Decides.{Decides-int_eq}
use Rattle.std.proofs.Math.Dec.{eqb-suc-zero}
use Rattle.std.proofs.lemmas.Nat.{div-mul-add, mod_below}
use Rattle.std.proofs.lemmas.Nat.Gcd.{dvd_of_mod-eq-zero}
use Rattle.std.proofs.Math.Arith.{mod-mul}
use Rattle.std.proofs.Math.Nat.{div-add-mod, div-one, div-div-eq-div-mul, mod-mod_of_dvd, mul-add, mul-add-div, mul_assoc, mul_comm, mul-div-mul_left, mul-div_cancel', zero-add, zero-div}
use Rattle.control_vectors.specs.Controls.{Control, control_of, control_at, control_list, rest_of, rest_at}
use Rattle.control_vectors.specs.Closed.{if_admissible, is_admissible, is_multiple, divided_start, shifted_control, scaled_control, divided_control, reduced_control}
use Rattle.control_laws.specs.Laws.{ClosedLaws}

-- ---- lists that are alike value by value
mapped : (c d : Control) (f : ℤ → ℤ) (n : ℕ) → ((i : ℕ) → control_at d i ≡ f (control_at c i)) → control_list d n ≡ map f (control_list c n)
mapped c d f n e = by (range_with_len 0 n)
  where
    by : (places : List ℕ) → map (control_at d) places ≡ map f (map (control_at c) places)
    by [] = refl
    by (i ∷ places) = cc (e i, by places)

-- ---- what passes a test
passed : (b : Bool) (c d : Control) → (if b then Some c else None) ≡ Some d → (b ≡ true) × (c ≡ d)
passed true c d e = (refl, cc)
passed false c d e = absurd (cc)

tested : (b : Bool) (r : Option Control) (d : Control) → (if b then r else None) ≡ Some d → (b ≡ true) × (r ≡ Some d)
tested true r d e = (refl, e)
tested false r d e = absurd (cc)

both : (a b : Bool) → (a && b) ≡ true → (a ≡ true) × (b ≡ true)
both true b e = (refl, e)
both false b e = absurd (cc)

-- ---- rests: without a modulus, and by one
rest_some : (q m : ℕ) → rest_of q (suc m) ≡ q % suc m
rest_some q m = rw (eqb-suc-zero m) refl

rest_above : (q m : ℕ) → 0 < m → rest_of q m ≡ q % m
rest_above q zero h = absurd (omega arith)
rest_above q (suc m) h = rest_some q m

-- ---- a number added
shifted_at : (s k : ℤ) (r : ℕ) → s +ℤ k +ℤ pos r ≡ s +ℤ pos r +ℤ k
shifted_at s k r = omega (arith, ints)

-- ---- times a number
scaled_at : (s : ℤ) (k r : ℕ) → pos k *ℤ s +ℤ pos (k * r) ≡ (s +ℤ pos r) *ℤ pos k
scaled_at (pos a) k r = ap pos (let n : k * a + k * r ≡ (a + r) * k = omega (arith, mul_comm k (a + r)) in n)
scaled_at (negsuc a) k r = elim (cases_lt a r) [
  | inl less ↦
      let sum : negsuc a +ℤ pos r ≡ pos (r - suc a) = omega (arith, ints) in
      let times : k * r ≡ (r - suc a) * k + k * suc a = ap (λ n. k * n) (let n : r ≡ (r - suc a) + suc a = omega arith in n) ∙ omega (arith, mul-add k (r - suc a) (suc a), mul_comm k (r - suc a)) in
      let same : neg_ℤ (pos (k * suc a)) +ℤ pos (k * r) ≡ pos ((r - suc a) * k) = omega (arith, ints) in
      same ∙ ap (λ z. z *ℤ pos k) (sym sum)
  | inr more ↦
      let sum : negsuc a +ℤ pos r ≡ negsuc (a - r) = omega (arith, ints) in
      let times : k * suc a ≡ suc (a - r) * k + k * r = ap (λ n. k * n) (let n : suc a ≡ suc (a - r) + r = omega arith in n) ∙ omega (arith, mul-add k (suc (a - r)) r, mul_comm k (suc (a - r))) in
      let same : neg_ℤ (pos (k * suc a)) +ℤ pos (k * r) ≡ neg_ℤ (pos (suc (a - r) * k)) = omega (arith, ints) in
      same ∙ ap (λ z. z *ℤ pos k) (sym sum)
]

-- a common factor stays in the rest
rest_times : (k q m : ℕ) → 0 < k → (k * q) % (k * m) ≡ k * (q % m)
rest_times k q m h =
    let whole = div-add-mod (k * q) (k * m) in
    let part = ap (λ n. k * n) (div-add-mod q m) in
    let same = ap (λ n. k * m * n) (mul-div-mul_left q m h) in
    omega arith

scaled_rest : (k q m : ℕ) → 0 < k → rest_of (k * q) (k * m) ≡ k * rest_of q m
scaled_rest k q zero h = ap (λ n. rest_of (k * q) n) (let n : k * 0 ≡ 0 = omega arith in n)
scaled_rest k q (suc m) h = rest_above (k * q) (k * suc m) (omega arith) ∙ rest_times k q (suc m) h ∙ ap (λ n. k * n) (sym (rest_some q m))

-- ---- divided by a number
divided_by : (q d m : ℕ) → 0 < d → 0 < m → (q / d) % m ≡ (q % (d * m)) / d
divided_by q d m h some = sym (ap (λ n. q % n / d) (mul_comm d m) ∙ ap (λ n. n / d) (mod-mul q some h) ∙ div-mul-add ((q / d) % m) d (q % d) (mod_below q d h))

divided_rest : (q d m : ℕ) → 0 < d → m % d ≡ 0 → rest_of (q / d) (m / d) ≡ rest_of q m / d
divided_rest q d zero h e = ap (λ n. rest_of (q / d) n) (zero-div d)
divided_rest q d (suc m) h e =
    let whole = mul-div_cancel' d (dvd_of_mod-eq-zero d e) in
    let some : 0 < suc m / d = above (suc m / d) whole in
    rest_above (q / d) (suc m / d) some ∙ divided_by q d (suc m / d) h some ∙ ap (λ n. q % n / d) whole ∙ ap (λ n. n / d) (sym (rest_some q m))
  where
    above : (k : ℕ) → d * k ≡ suc m → 0 < k
    above zero whole = absurd (omega arith)
    above (suc k) whole = omega arith

divided_at : (s d q m : ℕ) → 0 < d → s % d ≡ 0 → m % d ≡ 0 → s / d + rest_of (q / d) (m / d) ≡ (s + rest_of q m) / d
divided_at s d q m h e f = ap (λ n. s / d + n) (divided_rest q d m h f) ∙ sym (ap (λ n. (n + rest_of q m) / d) (sym (mul-div_cancel' d (dvd_of_mod-eq-zero d e))) ∙ mul-add-div h (s / d) (rest_of q m))

-- ---- the rest by a number
reduced_rest : (q d m : ℕ) → 0 < d → m % d ≡ 0 → rest_of q d ≡ rest_of q m % d
reduced_rest q d zero h e = rest_above q d h
reduced_rest q d (suc m) h e = rest_above q d h ∙ sym (ap (λ n. n % d) (rest_some q m) ∙ mod-mod_of_dvd d q (dvd_of_mod-eq-zero d e))

reduced_at : (q d m : ℕ) → 0 < d → m % d ≡ 0 → 0 + rest_of q d ≡ (0 + rest_of q m) % d
reduced_at q d m h e = zero-add (rest_of q d) ∙ reduced_rest q d m h e ∙ ap (λ n. n % d) (sym (zero-add (rest_of q m)))

-- ---- the four operations
shifted : (c d : Control) (k : ℤ) (n : ℕ) → shifted_control c k ≡ Some d → control_list d n ≡ map (λ z. z +ℤ k) (control_list c n)
shifted c d k n e =
    let is = passed (is_admissible (shift c k)) (shift c k) d e in
    rw (sym is.1) (mapped c (shift c k) (λ z. z +ℤ k) n (λ i. shifted_at c.start k (rest_at c i)))
  where
    shift : Control → ℤ → Control
    shift c k = control_of (c.start +ℤ k) c.step c.modulus c.divisor

scaled_places : (i k step divisor m : ℕ) → 0 < k → divisor ≡ 1 → rest_of ((i * (k * step)) / 1) (k * m) ≡ k * rest_of ((i * step) / divisor) m
scaled_places i k step divisor m h e =
    let first : (i * (k * step)) / 1 ≡ k * ((i * step) / 1) = div-one (i * (k * step)) ∙ turned i k step ∙ ap (λ n. k * n) (sym (div-one (i * step))) in
    ap (λ n. rest_of n (k * m)) first ∙ scaled_rest k ((i * step) / 1) m h ∙ ap (λ n. k * rest_of ((i * step) / n) m) (sym e)
  where
    turned : (i k step : ℕ) → i * (k * step) ≡ k * (i * step)
    turned i k step = sym (mul_assoc i k step) ∙ (ap (λ n. n * step) (mul_comm i k) ∙ mul_assoc k i step)

scaled : (c d : Control) (k n : ℕ) → scaled_control c k ≡ Some d → control_list d n ≡ map (λ z. z *ℤ pos k) (control_list c n)
scaled c d k n e =
    let first = tested (nat_le 1 k && c.divisor == 1) (if_admissible (times c k)) d e in
    let tests = both (nat_le 1 k) (c.divisor == 1) first.0 in
    let is = passed (is_admissible (times c k)) (times c k) d first.1 in
    let some : 0 < k = leb-true 1 k tests.0 in
    let one = eqb-true c.divisor 1 tests.1 in
    rw (sym is.1) (mapped c (times c k) (λ z. z *ℤ pos k) n (λ i. ap (λ n. pos k *ℤ c.start +ℤ pos n) (scaled_places i k c.step c.divisor c.modulus some one) ∙ scaled_at c.start k (rest_at c i)))
  where
    times : Control → ℕ → Control
    times c k = control_of (pos k *ℤ c.start) (k * c.step) (k * c.modulus) 1

divided_from : (c d : Control) (m s : ℕ) → divided_start (pos s) c m ≡ Some d → (i : ℕ) → control_at d i ≡ int_div (pos s +ℤ pos (rest_at c i)) (pos m)
divided_from c d m s e i =
    let limit = nat_le (c.divisor * m) (2 ^ 31) in
    let is = passed (nat_le 1 m && is_multiple s m && is_multiple c.modulus m && limit) (quotient c m s) d e in
    let most = both (nat_le 1 m && is_multiple s m && is_multiple c.modulus m) limit is.0 in
    let more = both (nat_le 1 m && is_multiple s m) (is_multiple c.modulus m) most.0 in
    let first = both (nat_le 1 m) (is_multiple s m) more.0 in
    let q = (i * c.step) / c.divisor in
    let some : 0 < m = leb-true 1 m first.0 in
    rw (sym is.1)
    (ap pos (ap (λ n. s / m + rest_of n (c.modulus / m)) (sym (div-div-eq-div-mul (i * c.step) c.divisor m)) ∙ divided_at s m q c.modulus some (eqb-true (s % m) 0 first.1) (eqb-true (c.modulus % m) 0 more.1)))
  where
    quotient : Control → ℕ → ℕ → Control
    quotient c m s = control_of (pos (s / m)) c.step (c.modulus / m) (c.divisor * m)

divided : (c d : Control) (m n : ℕ) → divided_control c m ≡ Some d → control_list d n ≡ map (λ z. int_div z (pos m)) (control_list c n)
divided c d m n e = mapped c d (λ z. int_div z (pos m)) n (by c.start e)
  where
    by : (start : ℤ) → divided_start start c m ≡ Some d → (i : ℕ) → control_at d i ≡ int_div (start +ℤ pos (rest_at c i)) (pos m)
    by (negsuc s) e i = absurd (cc)
    by (pos s) e i = divided_from c d m s e i

reduced : (c d : Control) (m n : ℕ) → reduced_control c m ≡ Some d → control_list d n ≡ map (λ z. int_rem_euclid z (pos m)) (control_list c n)
reduced c d m n e =
    let zero_start = int_eq c.start (pos 0) in
    let is = passed (zero_start && nat_le 1 m && nat_le m (2 ^ 31) && is_multiple c.modulus m) (rest c m) d e in
    let most = both (zero_start && nat_le 1 m && nat_le m (2 ^ 31)) (is_multiple c.modulus m) is.0 in
    let more = both (zero_start && nat_le 1 m) (nat_le m (2 ^ 31)) most.0 in
    let first = both zero_start (nat_le 1 m) more.0 in
    let none = (Decides-int_eq c.start (pos 0)).0 first.0 in
    let some : 0 < m = leb-true 1 m first.1 in
    rw (sym is.1) (mapped c (rest c m) (λ z. int_rem_euclid z (pos m)) n (λ i.
    ap pos (reduced_at ((i * c.step) / c.divisor) m c.modulus some (eqb-true (c.modulus % m) 0 most.1))
    ∙ ap (λ z. int_rem_euclid (z +ℤ pos (rest_at c i)) (pos m)) (sym none)))
  where
    rest : Control → ℕ → Control
    rest c m = control_of (pos 0) c.step m c.divisor

pub closed_laws : ClosedLaws
closed_laws = record { shifted = shifted; scaled = scaled; divided = divided; reduced = reduced }
