-- What the units of a decimal are: ten to the power of the scale times its value, which is the number that all its digits spell without
-- the point, divided by ten for each digit behind the point. Said without a quotient.
use Rattle.std.specs.Prelude.{◌≡◌, ◌<◌, ◌*◌, ◌^◌, ℕ, List, ◌++◌, length, Ok}
use Rattle.number_fields.specs.Digits.{number_of}
use Rattle.number_fields.specs.Decimals.{decimal_magnitude, fraction_digits, whole_digits}

abbrev pub DecimalRule : Type 0
DecimalRule =
    (p s : ℕ) (f : List ℕ) (units : ℕ) → decimal_magnitude p s f ≡ Ok units
    → (units * 10 ^ length (fraction_digits f) ≡ number_of (whole_digits f ++ fraction_digits f) * 10 ^ s) × (units < 10 ^ p)
