-- Digits, and the number that they spell. Fields are lists of bytes.
use Rattle.std.specs.Prelude.{◌+◌, ◌-◌, ◌*◌, ◌==◌, ◌&&◌, Bool, not, ℕ, List, length, fold, nat_le}
use Rattle.std.specs.List.{list_all}

abbrev pub is_digit : ℕ → Bool
is_digit c = nat_le 48 c && nat_le c 57

-- one more digit
abbrev pub with_digit : ℕ → ℕ → ℕ
with_digit n c = n * 10 + (c - 48)

-- the value of a row of digits
abbrev pub number_of : List ℕ → ℕ
number_of digits = fold with_digit 0 digits

-- one digit or more, and nothing else
abbrev pub is_number : List ℕ → Bool
is_number digits = not (length digits == 0) && list_all is_digit digits
