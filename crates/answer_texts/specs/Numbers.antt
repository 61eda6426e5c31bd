-- A number as text, by its scale: `-` where it is below 0, the whole part with at least one digit and, where the scale is above 0, `.` and so many digits.
-- After SQL-92 (ISO/IEC 9075:1992), 5.3 <exact numeric literal>.
use Rattle.std.specs.Prelude.{ℕ, zero, suc, ◌+◌, ◌/◌, ◌%◌, ◌^◌, ℤ, pos, negsuc, List, [], ◌∷◌, ◌++◌}
use Rattle.std.specs.Fmt.{decimal}

-- the last so many digits of a number
abbrev pub last_digits : ℕ → ℕ → List ℕ
last_digits zero n = []
last_digits (suc k) n = last_digits k (n / 10) ++ (48 + n % 10) ∷ []

-- a number that is not below 0
abbrev pub scaled : ℕ → ℕ → List ℕ
scaled zero n = decimal n
scaled (suc s) n = decimal (n / 10 ^ suc s) ++ 46 ∷ last_digits (suc s) n

abbrev pub number_text : ℕ → ℤ → List ℕ
number_text s (pos n) = scaled s n
number_text s (negsuc n) = 45 ∷ scaled s (suc n)
