-- The decimal digits of a number, however great it is: so two numbers never have the same.
use Rattle.std.specs.Prelude.{ℕ, zero, suc, ◌+◌, ◌/◌, ◌%◌, nat_lt, if◌then◌else◌, [], ◌∷◌, ◌++◌}
use Rattle.programs.specs.Mentions.{Label}

-- the last k digits at most
abbrev pub last_digits : ℕ → ℕ → Label
last_digits zero n = []
last_digits (suc k) n = if nat_lt n 10 then (48 + n) ∷ [] else last_digits k (n / 10) ++ (48 + n % 10) ∷ []

-- all of them: a number has fewer digits than ones that are below it, or one digit
unfoldable pub numeral : ℕ → Label
numeral n = last_digits (n + 1) n
