-- What the fields of made rows are read as.
use Rattle.std.proofs.Common.{◌≡◌, ◌∙◌, ℕ, suc, ◌^◌, ◌<◌, true, false, ℤ, pos, negsuc, List, [], ◌∷◌, length, Ok, refl, ap, arith, rules}
use Rattle.std.specs.Prelude.{◌==◌, fold, nat_lt, not, unsigned_abs}
use Rattle.std.specs.Fmt.{decimal, signed_decimal}
use Rattle.std.specs.List.{list_all}
use Rattle.std.proofs.lemmas.Bool.{and_from, le-leb}
use Rattle.std.proofs.lemmas.Bool.Decides.{nat_tests}
use Rattle.std.proofs.lemmas.Fmt.{decimal_nonempty, digits_decimal, digits_value-decimal}
use Rattle.std.proofs.lemmas.Str.Parse.{IsNumeralModel, numerals_by_fold}
use Rattle.number_fields.specs.Digits.{is_digit, is_number, number_of, with_digit}
use Rattle.number_fields.specs.Integers.{integer_value, magnitude_of, not_below_zero}

own : IsNumeralModel (λ ds. list_all is_digit ds ≡ true) (fold with_digit 0)
own = numerals_by_fold _ (search rules) (fold with_digit) (search rules)

pub all_digits : (n : ℕ) → n < 2 ^ 64 → list_all is_digit (decimal n) ≡ true
all_digits n h = digits_decimal own n h

nonzero : (n : ℕ) → 0 < n → not (n == 0) ≡ true
nonzero n h = grind (arith, nat_tests)

magnitude : (n : ℕ) → n < 2 ^ 63 → magnitude_of (decimal n) ≡ Ok n
magnitude n h =
    let wide : n < 2 ^ 64 = omega (arith, h) in
    let form : is_number (decimal n) ≡ true = and_from _ _ (nonzero (length (decimal n)) (decimal_nonempty n wide)) (all_digits n wide) in
    let value : number_of (decimal n) ≡ n = digits_value-decimal own n wide in
    rw (form, value, le-leb n 9_223_372_036_854_775_808 (omega (arith, h))) refl

unsigned : (ds : List ℕ) → 0 < length ds → list_all is_digit ds ≡ true → integer_value ds ≡ not_below_zero (magnitude_of ds)
unsigned [] h d = absurd (omega (arith, h))
unsigned (c ∷ rest) h d = let other : (c == 45) ≡ false = grind (arith, nat_tests) in rw other refl

pub whole_read : (n : ℕ) → n < 2 ^ 63 → integer_value (decimal n) ≡ Ok (pos n)
whole_read n h =
    let small : nat_lt n 9_223_372_036_854_775_808 ≡ true = grind (arith, nat_tests) in
    unsigned (decimal n) (decimal_nonempty n (omega (arith, h))) (all_digits n (omega (arith, h))) ∙ ap not_below_zero (magnitude n h) ∙ rw small refl

pub signed_read : (z : ℤ) → unsigned_abs z < 2 ^ 63 → integer_value (signed_decimal z) ≡ Ok z
signed_read (pos n) h = whole_read n h
signed_read (negsuc n) h = rw (magnitude (suc n) h) refl
