-- Values of digits that are told apart below 10^18, as no decimal of a column has more than 18 digits.
use Rattle.std.specs.Prelude.{ℕ, List, ◌++◌, fold, if◌then◌else◌, nat_lt, Option, Some, None}
use Rattle.std.specs.List.{list_all}
use Rattle.number_fields.specs.Digits.{is_digit, with_digit}
use Rattle.number_fields.specs.Decimals.{rest_in, units_in}

abbrev pub capped : ℕ → ℕ
capped n = if nat_lt n 1_000_000_000_000_000_000 then n else 1_000_000_000_000_000_000

-- the value of digits behind others
abbrev pub capped_after : ℕ → List ℕ → Option ℕ
capped_after n digits = if list_all is_digit digits then Some (capped (fold with_digit n digits)) else None

-- the units of digits before and behind a point, and what is left
abbrev pub capped_parts : ℕ → List ℕ → List ℕ → Option (ℕ × ℕ)
capped_parts s whole fraction = if list_all is_digit (whole ++ fraction) then Some (capped (units_in s whole fraction), capped (rest_in s fraction)) else None
