-- The numbers that words spell, and the words that numbers are printed as.
use Rattle.std.proofs.Common.{◌≡◌, ℕ, ℤ, pos, negsuc, suc, ◌^◌, ◌≤◌, ◌<◌, ◌+◌, ◌*◌, ◌-◌, ◌/◌, true, false, [], ◌∷◌, ◌++◌, length, take, drop, get_or, refl, ap, sym, ◌∙◌, arith}
use Rattle.std.specs.Prelude.{Some, None, nat_le}
use Rattle.std.specs.Char.{is_ascii_digit, digit_value}
use Rattle.std.specs.Fmt.{decimal, signed_decimal}
use Rattle.std.specs.List.{list_all}
use Rattle.std.specs.Str.Parse.{digits_value, AllDigits, digits_value_after, starts_with_minus}
use Rattle.std.proofs.lemmas.Bool.{and_parts, and_from, and_right, le-leb, lt-leb}
use Rattle.std.proofs.lemmas.List.{take-append-drop, length-drop}
use Rattle.std.proofs.lemmas.List.Folds.{list_all_at}
use Rattle.std.proofs.lemmas.Bool.Decides.{nat_tests}
use Rattle.std.proofs.lemmas.Fmt.{decimal_is_IsNumeral_wide}
use Rattle.voodoo_text.specs.Values.{Bytes, digits_within, integer_within}

digit_from_value : (b : ℕ) → digit_value b < 10 → is_ascii_digit b ≡ true
digit_from_value b h = grind (arith, nat_tests)

all_digits : (ds : Bytes) → AllDigits 10 ds → list_all is_ascii_digit ds ≡ true
all_digits [] h = refl
all_digits (b ∷ ds) h = and_from (is_ascii_digit b) (list_all is_ascii_digit ds) (digit_from_value b h.0) (all_digits ds h.1)

pub decimal_digits : (n : ℕ) → n < 10 ^ 64 → list_all is_ascii_digit (decimal n) ≡ true
decimal_digits n h = all_digits (decimal n) (decimal_is_IsNumeral_wide n h).0.1

pub natural_read : (most n : ℕ) → n ≤ most → n < 10 ^ 64 → digits_within most (decimal n) ≡ Some n
natural_read most n below h =
    let is : digits_value 10 (decimal n) ≡ n = (decimal_is_IsNumeral_wide n h).1 in
    rw (decimal_digits n h, is, le-leb n most below) refl

pub digits_unsigned : (w : Bytes) → list_all is_ascii_digit w ≡ true → starts_with_minus w ≡ false
digits_unsigned [] h = refl
digits_unsigned (b ∷ w) h = let first = (and_parts (is_ascii_digit b) (list_all is_ascii_digit w) h).0 in grind (arith, nat_tests)

-- how far from 0
abbrev pub Within : ℕ → ℕ → ℤ → Type 0
Within least most (pos n) = n ≤ most
Within least most (negsuc n) = n < least

pub integer_read : (least most : ℕ) (z : ℤ) → least < 10 ^ 64 → most < 10 ^ 64 → Within least most z → integer_within least most (signed_decimal z) ≡ Some z
integer_read least most (pos n) small large h =
    let plain = digits_unsigned (decimal n) (decimal_digits n (omega arith)) in
    rw (plain, natural_read most n h (omega arith)) refl
integer_read least most (negsuc n) small large h =
    rw (natural_read least (suc n) (omega arith) (omega arith)) refl

-- ---- digits read one by one
no_digits : (most : ℕ) (w : Bytes) → list_all is_ascii_digit w ≡ false → digits_within most w ≡ None
no_digits most w h = rw h refl

too_large : (most : ℕ) (w : Bytes) → most < digits_value 10 w → digits_within most w ≡ None
too_large most w h =
    let large = lt-leb (digits_value 10 w) most h in
    rw (and_right (list_all is_ascii_digit w) (nat_le (digits_value 10 w) most) large) refl

after_more : (n : ℕ) (w : Bytes) → n ≤ digits_value_after 10 n w
after_more n [] = omega arith
after_more n (b ∷ w) = omega (arith, after_more (n * 10 + digit_value b) w)

after_some : (n : ℕ) (w : Bytes) → 1 ≤ length w → n * 10 ≤ digits_value_after 10 n w
after_some n [] h = absurd (omega arith)
after_some n (b ∷ w) h = omega (arith, after_more (n * 10 + digit_value b) w)

value_append : (n : ℕ) (xs ys : Bytes) → digits_value_after 10 n (xs ++ ys) ≡ digits_value_after 10 (digits_value_after 10 n xs) ys
value_append n [] ys = refl
value_append n (b ∷ xs) ys = value_append (n * 10 + digit_value b) xs ys

-- a byte that is no digit
pub stops_at : (most : ℕ) (w : Bytes) (i : ℕ) → i < length w → is_ascii_digit (get_or w i 0) ≡ false → digits_within most w ≡ None
stops_at most w i within h = no_digits most w (list_all_at is_ascii_digit w i 0 within h)

-- one digit more leaves what is larger than a tenth of the greatest number larger than it
pub grows_past : (most : ℕ) (w : Bytes) (i : ℕ) → i < length w → most / 10 < digits_value 10 (take i w) → digits_within most w ≡ None
grows_past most w i within h =
    let some : 1 ≤ length (drop i w) = simp length-drop (omega arith) in
    let whole : digits_value 10 w ≡ digits_value_after 10 (digits_value 10 (take i w)) (drop i w) = ap (digits_value 10) (sym (take-append-drop i w)) ∙ value_append 0 (take i w) (drop i w) in
    let more = after_some (digits_value 10 (take i w)) (drop i w) some in
    too_large most w (omega arith)

pub digit_is : (c : ℕ) → is_ascii_digit c ≡ true → digit_value c ≡ c - 48
digit_is c h = grind (arith, nat_tests)
