-- The numbers that fields spell are in range.
use Rattle.std.proofs.Common.{◌≡◌, ℕ, ◌-◌, ◌<◌, ◌≤◌, ◌^◌, ℤ, pos, negsuc, neg_ℤ, int_le, ◌≤ℤ◌, List, [], ◌∷◌, Bool, true, false, ◌&&◌, T, Result, Ok, Err, refl, subst, arith, inl, inr, ◌⊎◌}
use Rattle.std.specs.Prelude.{nat_eq, nat_le, nat_lt}
use Rattle.std.proofs.lemmas.Bool.{cases_Bool}
use Rattle.std.proofs.lemmas.Bool.Decides.{nat_tests}
use Rattle.std.proofs.lemmas.Int.{ints}
use Rattle.number_fields.specs.Decimals.{decimal_magnitude, plain}
use Rattle.number_fields.specs.Digits.{is_number, number_of}
use Rattle.number_fields.specs.Integers.{below_zero, magnitude_of, not_below_zero}
use Rattle.number_fields.specs.Ranges.{DecimalRange, IntegerRange, lies_between}
use Rattle.number_fields.specs.declared.fault.NumberFault.{NumberFault}
use Rattle.number_fields.proofs.DecimalLaws.{decimal_rule}

pub both_hold : (x y : Bool) → T x → T y → (x && y) ≡ true
both_hold true true h g = refl
both_hold true false h g = absurd g
both_hold false y h g = absurd h

-- a number by its size, below zero or not
above : (l m n : ℕ) → n ≤ m → lies_between (neg_ℤ (pos l)) (pos m) (pos n) ≡ true
above l m n h =
    let least : neg_ℤ (pos l) ≤ℤ pos n = omega (arith, ints) in
    let greatest : pos n ≤ℤ pos m = omega (arith, ints) in
    both_hold (int_le (neg_ℤ (pos l)) (pos n)) (int_le (pos n) (pos m)) least.le greatest.le

below : (l m n : ℕ) → n ≤ l → lies_between (neg_ℤ (pos l)) (pos m) (neg_ℤ (pos n)) ≡ true
below l m n h =
    let least : neg_ℤ (pos l) ≤ℤ neg_ℤ (pos n) = omega (arith, ints) in
    let greatest : neg_ℤ (pos n) ≤ℤ pos m = omega (arith, ints) in
    both_hold (int_le (neg_ℤ (pos l)) (neg_ℤ (pos n))) (int_le (neg_ℤ (pos n)) (pos m)) least.le greatest.le

magnitude_most : (digits : List ℕ) (n : ℕ) → magnitude_of digits ≡ Ok n → n ≤ 9_223_372_036_854_775_808
magnitude_most digits n e = by_form (cases_Bool (is_number digits)) (cases_Bool (nat_le (number_of digits) 9_223_372_036_854_775_808))
  where
    by_form : (is_number digits ≡ true) ⊎ (is_number digits ≡ false) → (nat_le (number_of digits) 9_223_372_036_854_775_808 ≡ true) ⊎ (nat_le (number_of digits) 9_223_372_036_854_775_808 ≡ false) → n ≤ 9_223_372_036_854_775_808
    by_form (inl is) (inl most) =
        let same = rw (is, most) at e in
        let number : number_of digits ≡ n = cc in
        grind (arith, nat_tests, most, number)
    by_form (inl is) (inr over) = let none = rw (is, over) at e in absurd (cc)
    by_form (inr isnt) m = let none = rw isnt at e in absurd (cc)

below_within : (m : Result ℕ NumberFault) (z : ℤ) → ((n : ℕ) → m ≡ Ok n → n ≤ 9_223_372_036_854_775_808) → below_zero m ≡ Ok z → lies_between (negsuc 9_223_372_036_854_775_807) (pos 9_223_372_036_854_775_807) z ≡ true
below_within (Ok n) z h e =
    let same : neg_ℤ (pos n) ≡ z = cc in
    subst (λ y. lies_between (negsuc 9_223_372_036_854_775_807) (pos 9_223_372_036_854_775_807) y ≡ true) same (below 9_223_372_036_854_775_808 9_223_372_036_854_775_807 n (h n refl))
below_within (Err fault) z h e = absurd (cc)

above_within : (m : Result ℕ NumberFault) (z : ℤ) → not_below_zero m ≡ Ok z → lies_between (negsuc 9_223_372_036_854_775_807) (pos 9_223_372_036_854_775_807) z ≡ true
above_within (Ok n) z e = by_size (cases_Bool (nat_lt n 9_223_372_036_854_775_808))
  where
    by_size : (nat_lt n 9_223_372_036_854_775_808 ≡ true) ⊎ (nat_lt n 9_223_372_036_854_775_808 ≡ false) → lies_between (negsuc 9_223_372_036_854_775_807) (pos 9_223_372_036_854_775_807) z ≡ true
    by_size (inl small) =
        let kept = rw small at e in
        let same : pos n ≡ z = cc in
        let most : n ≤ 9_223_372_036_854_775_807 = grind (arith, nat_tests, small) in
        subst (λ y. lies_between (negsuc 9_223_372_036_854_775_807) (pos 9_223_372_036_854_775_807) y ≡ true) same (above 9_223_372_036_854_775_808 9_223_372_036_854_775_807 n most)
    by_size (inr over) = let none = rw over at e in absurd (cc)
above_within (Err fault) z e = absurd (cc)

pub integer_range : IntegerRange
integer_range [] z e = absurd (cc)
integer_range (c ∷ rest) z e = by_sign (cases_Bool (nat_eq c 45))
  where
    by_sign : (nat_eq c 45 ≡ true) ⊎ (nat_eq c 45 ≡ false) → lies_between (negsuc 9_223_372_036_854_775_807) (pos 9_223_372_036_854_775_807) z ≡ true
    by_sign (inl minus) = below_within (magnitude_of rest) z (magnitude_most rest) (rw minus at e)
    by_sign (inr isnt) = above_within (magnitude_of (c ∷ rest)) z (rw isnt at e)

pub decimal_range : DecimalRange
decimal_range p s [] z e = absurd (cc)
decimal_range p s (c ∷ rest) z e = by_sign (cases_Bool (nat_eq c 45))
  where
    least : ℤ
    least = neg_ℤ (pos (10 ^ p - 1))

    greatest : ℤ
    greatest = pos (10 ^ p - 1)

    under : (m : Result ℕ NumberFault) → ((n : ℕ) → m ≡ Ok n → n < 10 ^ p) → below_zero m ≡ Ok z → lies_between least greatest z ≡ true
    under (Ok n) h b =
        let same : neg_ℤ (pos n) ≡ z = cc in
        let small : n ≤ 10 ^ p - 1 = omega (arith, h n refl) in
        subst (λ y. lies_between least greatest y ≡ true) same (below (10 ^ p - 1) (10 ^ p - 1) n small)
    under (Err fault) h b = absurd (cc)

    over : (m : Result ℕ NumberFault) → ((n : ℕ) → m ≡ Ok n → n < 10 ^ p) → plain m ≡ Ok z → lies_between least greatest z ≡ true
    over (Ok n) h b =
        let same : pos n ≡ z = cc in
        let small : n ≤ 10 ^ p - 1 = omega (arith, h n refl) in
        subst (λ y. lies_between least greatest y ≡ true) same (above (10 ^ p - 1) (10 ^ p - 1) n small)
    over (Err fault) h b = absurd (cc)

    by_sign : (nat_eq c 45 ≡ true) ⊎ (nat_eq c 45 ≡ false) → lies_between least greatest z ≡ true
    by_sign (inl minus) = under (decimal_magnitude p s rest) (λ n m. (decimal_rule p s rest n m).1) (rw minus at e)
    by_sign (inr isnt) = over (decimal_magnitude p s (c ∷ rest)) (λ n m. (decimal_rule p s (c ∷ rest) n m).1) (rw isnt at e)
