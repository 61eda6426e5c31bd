-- What the units of a decimal are.
use Rattle.std.proofs.Common.{◌≡◌, ◌∙◌, ℕ, ◌+◌, ◌-◌, ◌*◌, ◌<◌, ◌≤◌, ◌^◌, List, [], ◌∷◌, ◌++◌, fold, true, false, ◌&&◌, Ok, sym, ap, arith, inl, inr, ◌⊎◌, length, take, drop, append_assoc}
use Rattle.std.specs.Prelude.{nat_eq, nat_lt}
use Rattle.std.proofs.Math.Nat.{add-mul, mul_assoc, pow-le-pow_right, pow-succ'}
use Rattle.std.proofs.lemmas.Bool.{and_parts, cases_Bool, cases_lt}
use Rattle.std.proofs.lemmas.Bool.Decides.{nat_tests}
use Rattle.std.proofs.lemmas.List.{length-drop, take-append-drop, take_all}
use Rattle.std.proofs.lemmas.List.Sums.{fold-append}
use Rattle.std.proofs.lemmas.Nat.{pow-add}
use Rattle.number_fields.specs.Decimals.{at_most_18, fraction_digits, is_decimal, rest_in, units_in, units_within, whole_digits}
use Rattle.number_fields.specs.Digits.{number_of, with_digit}
use Rattle.number_fields.specs.Laws.{DecimalRule}

-- digits behind others stand for what they spell, and move these by a place each
digits_behind : (n : ℕ) (digits : List ℕ) → fold with_digit n digits ≡ n * 10 ^ length digits + number_of digits
digits_behind n [] = omega arith
digits_behind n (c ∷ digits) =
    let power = 10 ^ length digits in
    let d = c - 48 in
    let first : (n * 10 + d) * power ≡ n * 10 * power + d * power = add-mul (n * 10) d power in
    let moved : n * 10 * power ≡ n * (10 * power) = mul_assoc n 10 power in
    let longer : 10 ^ length (c ∷ digits) ≡ 10 * power = pow-succ' 10 (length digits) in
    let here = digits_behind (n * 10 + d) digits in
    let there = digits_behind (0 * 10 + d) digits in
    let plain : (0 * 10 + d) * power ≡ d * power = ap (λ k. k * power) (omega arith) in
    let whole : n * 10 ^ length (c ∷ digits) ≡ n * (10 * power) = ap (λ k. n * k) longer in
    omega (arith, first, moved, here, there, plain, whole)

spelled_parts : (a b : List ℕ) → number_of (a ++ b) ≡ number_of a * 10 ^ length b + number_of b
spelled_parts a b = fold-append with_digit 0 a b ∙ digits_behind (number_of a) b

-- nothing behind the first s digits of the fraction
value_kept : (s : ℕ) (whole fraction : List ℕ) → rest_in s fraction ≡ 0 → units_in s whole fraction * 10 ^ length fraction ≡ number_of (whole ++ fraction) * 10 ^ s
value_kept s whole fraction none = by_length (cases_lt (length fraction) s)
  where
    by_length : (length fraction < s) ⊎ (s ≤ length fraction) → units_in s whole fraction * 10 ^ length fraction ≡ number_of (whole ++ fraction) * 10 ^ s
    by_length (inl short) =
        let all : take s fraction ≡ fraction = take_all s fraction (omega (arith, short)) in
        mul_assoc (number_of (whole ++ take s fraction)) (10 ^ (s - length fraction)) (10 ^ length fraction)
        ∙ ap (λ l. number_of (whole ++ l) * (10 ^ (s - length fraction) * 10 ^ length fraction)) all
        ∙ ap (λ k. number_of (whole ++ fraction) * k) (sym (pow-add 10 (s - length fraction) (length fraction)) ∙ ap (λ k. 10 ^ k) (omega (arith, short)))
    by_length (inr long) =
        let first = number_of (whole ++ take s fraction) in
        let spelled : number_of (whole ++ fraction) ≡ first * 10 ^ (length fraction - s) =
        ap (λ l. number_of (whole ++ l)) (sym (take-append-drop s fraction))
        ∙ ap number_of (sym (append_assoc whole (take s fraction) (drop s fraction)))
        ∙ spelled_parts (whole ++ take s fraction) (drop s fraction)
        ∙ ap (λ k. first * 10 ^ length (drop s fraction) + k) none
        ∙ ap (λ k. first * 10 ^ k + 0) (length-drop s fraction)
        ∙ omega arith
        in
        let whole_scale : s - length fraction ≡ 0 = omega (arith, long) in
        let once : first * 1 ≡ first = omega arith in
        let digits : length fraction ≡ length fraction - s + s = omega (arith, long) in
        ap (λ k. first * 10 ^ k * 10 ^ length fraction) whole_scale
        ∙ ap (λ k. k * 10 ^ length fraction) once
        ∙ ap (λ k. first * 10 ^ k) digits
        ∙ ap (λ k. first * k) (pow-add 10 (length fraction - s) s)
        ∙ sym (mul_assoc first (10 ^ (length fraction - s)) (10 ^ s))
        ∙ ap (λ k. k * 10 ^ s) (sym spelled)

-- what is within is not changed, and nothing was left
within_parts : (p units rest n : ℕ) → units_within p units rest ≡ Ok n → (units ≡ n) × (rest ≡ 0) × (units < 10 ^ p)
within_parts p units rest n e = by_test (cases_Bool (nat_eq rest 0 && nat_lt units (10 ^ at_most_18 p)))
  where
    by_precision : (at_most_18 p ≤ p)
    by_precision = by_size (cases_lt p 18)
      where
        by_size : (p < 18) ⊎ (18 ≤ p) → at_most_18 p ≤ p
        by_size (inl below) = grind (arith, nat_tests)
        by_size (inr above) = grind (arith, nat_tests)

    by_test : ((nat_eq rest 0 && nat_lt units (10 ^ at_most_18 p)) ≡ true) ⊎ ((nat_eq rest 0 && nat_lt units (10 ^ at_most_18 p)) ≡ false) → (units ≡ n) × (rest ≡ 0) × (units < 10 ^ p)
    by_test (inl is) =
        let both = and_parts (nat_eq rest 0) (nat_lt units (10 ^ at_most_18 p)) is in
        let same = rw is at e in
        let none : rest ≡ 0 = grind (arith, nat_tests, both.0) in
        let below : units < 10 ^ at_most_18 p = grind (arith, nat_tests, both.1) in
        (cc, none, omega (arith, below, pow-le-pow_right {n = 10} (omega arith) by_precision))
    by_test (inr isnt) = let refused = rw isnt at e in absurd (cc)

pub decimal_rule : DecimalRule
decimal_rule p s f n e = by_form (cases_Bool (is_decimal f))
  where
    whole : List ℕ
    whole = whole_digits f

    fraction : List ℕ
    fraction = fraction_digits f

    by_form : (is_decimal f ≡ true) ⊎ (is_decimal f ≡ false) → (n * 10 ^ length fraction ≡ number_of (whole ++ fraction) * 10 ^ s) × (n < 10 ^ p)
    by_form (inl is) =
        let kept : units_within p (units_in s whole fraction) (rest_in s fraction) ≡ Ok n = rw is at e in
        let (same, none, below) = within_parts p (units_in s whole fraction) (rest_in s fraction) n kept in
        (ap (λ k. k * 10 ^ length fraction) (sym same) ∙ value_kept s whole fraction none, rw same at below)
    by_form (inr isnt) = let refused = rw isnt at e in absurd (cc)
