-- What a field spells as a whole number of 64 bits: digits, or a `-` and digits, from -2^63 to 2^63 - 1.
use Rattle.std.specs.Prelude.{◌==◌, ℕ, List, [], ◌∷◌, if◌then◌else◌, nat_lt, nat_le, ℤ, pos, neg_ℤ, Result, Ok, Err}
use Rattle.number_fields.specs.Digits.{is_number, number_of}
use Rattle.number_fields.specs.declared.fault.NumberFault.{NumberFault}
use Rattle.number_fields.specs.declared.fault.NumberFault.TheVariants.{NoNumber, OutOfRange}

-- the value of digits, where it is at most 2^63
abbrev pub magnitude_of : List ℕ → Result ℕ NumberFault
magnitude_of digits =
    if is_number digits then (if nat_le (number_of digits) 9_223_372_036_854_775_808 then Ok (number_of digits) else Err OutOfRange)
    else Err NoNumber

abbrev pub below_zero : Result ℕ NumberFault → Result ℤ NumberFault
below_zero (Ok n) = Ok (neg_ℤ (pos n))
below_zero (Err fault) = Err fault

abbrev pub not_below_zero : Result ℕ NumberFault → Result ℤ NumberFault
not_below_zero (Ok n) = if nat_lt n 9_223_372_036_854_775_808 then Ok (pos n) else Err OutOfRange
not_below_zero (Err fault) = Err fault

abbrev pub integer_value : List ℕ → Result ℤ NumberFault
integer_value [] = Err NoNumber
integer_value (c ∷ rest) = if c == 45 then below_zero (magnitude_of rest) else not_below_zero (magnitude_of (c ∷ rest))
