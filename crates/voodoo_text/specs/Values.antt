-- What the digits of one token spell: a number within its range.
use Rattle.std.specs.Prelude.{ℕ, ℤ, pos, negsuc, neg_ℤ, ◌^◌, ◌&&◌, Bool, nat_le, nat_lt, if◌then◌else◌, List, drop, Option, Some, None}
use Rattle.std.specs.Char.{is_ascii_digit}
use Rattle.std.specs.List.{list_all}
use Rattle.std.specs.Option.{option_map}
use Rattle.std.specs.Str.Parse.{digits_value, starts_with_minus}
use Rattle.control_vectors.specs.Controls.{Control, control_of}

abbrev pub Bytes : Type 0
Bytes = List ℕ

abbrev pub only_if : {A : Type 0} → Bool → A → Option A
only_if test a = if test then Some a else None

-- decimal digits whose value is at most `most`
abbrev pub digits_within : ℕ → Bytes → Option ℕ
digits_within most digits = only_if (list_all is_ascii_digit digits && nat_le (digits_value 10 digits) most) (digits_value 10 digits)

-- a number from -least to most
abbrev pub integer_within : ℕ → ℕ → Bytes → Option ℤ
integer_within least most word =
    if starts_with_minus word then option_map (λ n. neg_ℤ (pos n)) (digits_within least (drop 1 word))
    else option_map pos (digits_within most word)

-- a number from 0 to most; zero may have a sign
abbrev pub natural_within : ℕ → Bytes → Option ℕ
natural_within most word =
    if starts_with_minus word then digits_within 0 (drop 1 word)
    else digits_within most word

-- whether a number lies in -2^62..2^62
abbrev pub is_start : ℤ → Bool
is_start (pos n) = nat_le n (2 ^ 62)
is_start (negsuc n) = nat_lt n (2 ^ 62)

-- the control vector of four numbers, where they are admissible
abbrev pub admitted : ℤ → ℕ → ℕ → ℕ → Option Control
admitted start step modulus divisor =
    only_if (is_start start && (nat_le step (2 ^ 31) && (nat_le modulus (2 ^ 31) && (nat_le 1 divisor && nat_le divisor (2 ^ 31)))))
    (control_of start step modulus divisor)
