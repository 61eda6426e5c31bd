-- What a field spells as a decimal of a precision and a scale: an optional `-`, then digits with at most one point before, among or after
-- them, of which at least one is there. It stands for its value times ten to the power of the scale, its number of units.
-- After SQL-92 (ISO/IEC 9075:1992), 4.4.1, where a decimal has so many digits in all, the precision, and so many behind the point, the scale.
use Rattle.std.specs.Prelude.{◌+◌, ◌-◌, ◌*◌, ◌^◌, ◌==◌, ◌&&◌, Bool, ℕ, List, [], ◌∷◌, ◌++◌, length, take, drop, if◌then◌else◌, nat_lt, ℤ, pos, Result, Ok, Err}
use Rattle.std.specs.List.{position_or_len}
use Rattle.number_fields.specs.Digits.{is_number, number_of}
use Rattle.number_fields.specs.Integers.{below_zero}
use Rattle.number_fields.specs.declared.fault.NumberFault.{NumberFault}
use Rattle.number_fields.specs.declared.fault.NumberFault.TheVariants.{NoNumber, OutOfRange}

abbrev pub is_point : ℕ → Bool
is_point c = c == 46

-- how many bytes stand before the first point; all, where there is none
abbrev pub point_place : List ℕ → ℕ
point_place f = position_or_len is_point f

-- what stands before the first point, and what behind it
abbrev pub whole_digits : List ℕ → List ℕ
whole_digits f = take (point_place f) f

abbrev pub fraction_digits : List ℕ → List ℕ
fraction_digits f = drop (point_place f + 1) f

-- both are digits, and there is one
abbrev pub is_decimal : List ℕ → Bool
is_decimal f = is_number (whole_digits f ++ fraction_digits f)

-- the value times 10^s, by the first s digits behind the point
abbrev pub units_in : ℕ → List ℕ → List ℕ → ℕ
units_in s whole fraction = number_of (whole ++ take s fraction) * 10 ^ (s - length fraction)

-- what the digits behind those spell
abbrev pub rest_in : ℕ → List ℕ → ℕ
rest_in s fraction = number_of (drop s fraction)

-- the greatest precision of a column
abbrev pub at_most_18 : ℕ → ℕ
at_most_18 p = if nat_lt p 18 then p else 18

-- the units, where no digit behind the first s ones is above 0 and they have at most p digits by their value
abbrev pub units_within : ℕ → ℕ → ℕ → Result ℕ NumberFault
units_within p units rest = if (rest == 0) && nat_lt units (10 ^ at_most_18 p) then Ok units else Err OutOfRange

-- the units that digits with a point spell
abbrev pub decimal_magnitude : ℕ → ℕ → List ℕ → Result ℕ NumberFault
decimal_magnitude p s f =
    if is_decimal f then units_within p (units_in s (whole_digits f) (fraction_digits f)) (rest_in s (fraction_digits f))
    else Err NoNumber

abbrev pub plain : Result ℕ NumberFault → Result ℤ NumberFault
plain (Ok n) = Ok (pos n)
plain (Err fault) = Err fault

abbrev pub decimal_value : ℕ → ℕ → List ℕ → Result ℤ NumberFault
decimal_value p s [] = Err NoNumber
decimal_value p s (c ∷ rest) = if c == 45 then below_zero (decimal_magnitude p s rest) else plain (decimal_magnitude p s (c ∷ rest))
