-- Dates in text, and their day numbers.
-- After SQL-92 (ISO/IEC 9075:1992), 5.3 <date literal>, and the calendar of ISO 8601.
use Rattle.std.specs.Prelude.{ℕ, ◌+◌, ◌-◌, ◌*◌, ◌==◌, ◌&&◌, Bool, if◌then◌else◌, nat_le, nat_lt, List, length, slice_index, ℤ, pos, negsuc, Option, Some, None}
use Rattle.std.specs.Char.{is_ascii_digit}
use Rattle.jiff_core.specs.Calendar.{days_from_civil, days_in_month}

abbrev pub digit_at : List ℕ → ℕ → ℕ
digit_at z i = slice_index z i - 48

abbrev pub is_digit_at : List ℕ → ℕ → Bool
is_digit_at z i = is_ascii_digit (slice_index z i)

abbrev pub two_digits_at : List ℕ → ℕ → ℕ
two_digits_at z i = digit_at z i * 10 + digit_at z (i + 1)

-- four digits, a hyphen, two digits, a hyphen, two digits
abbrev pub has_date_form : List ℕ → Bool
has_date_form z =
    (length z == 10) && is_digit_at z 0 && is_digit_at z 1 && is_digit_at z 2 && is_digit_at z 3 && (slice_index z 4 == 45)
    && is_digit_at z 5 && is_digit_at z 6 && (slice_index z 7 == 45) && is_digit_at z 8 && is_digit_at z 9

-- whether the Gregorian calendar has this day of the years from 1 on
abbrev pub is_civil_date : ℕ → ℕ → ℕ → Bool
is_civil_date y m d = nat_le 1 y && nat_le 1 m && nat_le m 12 && nat_le 1 d && nat_le d (days_in_month (pos y) m)

-- the days from 1970-01-01 to this date
abbrev pub day_of_civil : ℕ → ℕ → ℕ → Option ℤ
day_of_civil y m d = if is_civil_date y m d then Some (days_from_civil (pos y) m d) else None

-- the same of a text `yyyy-mm-dd`
abbrev pub day_number : List ℕ → Option ℤ
day_number z = if has_date_form z then day_of_civil (two_digits_at z 0 * 100 + two_digits_at z 2) (two_digits_at z 5) (two_digits_at z 8) else None

-- 0001-01-01 is day -719162, and 9999-12-31 is day 2932896
abbrev pub in_range : ℤ → Bool
in_range (pos n) = nat_le n 2932896
in_range (negsuc n) = nat_lt n 719162
