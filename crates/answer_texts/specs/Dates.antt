-- A day as text: its date `yyyy-mm-dd`, for the days of the years 1 to 9999.
-- After SQL-92 (ISO/IEC 9075:1992), 5.3 <date literal>, and the calendar of ISO 8601.
use Rattle.std.specs.Prelude.{ℕ, ◌+◌, ℤ, pos, ◌-ℤ◌, int_le, unsigned_abs, Bool, List, ◌∷◌, ◌++◌}
use Rattle.std.specs.List.{count_by, range_with_len}
use Rattle.jiff_core.specs.Calendar.{days_from_civil}
use Rattle.answer_texts.specs.Numbers.{last_digits}

-- whether a month of a year has begun by a day
abbrev pub has_begun : ℤ → ℕ → ℕ → Bool
has_begun day y m = int_le (days_from_civil (pos y) m 1) day

-- the year: so many of the years from 1 on have begun by then
abbrev pub year_of : ℤ → ℕ
year_of day = count_by (λ y. has_begun day y 1) (range_with_len 1 9999)

-- the month: so many of the year's have begun
abbrev pub month_of : ℕ → ℤ → ℕ
month_of y day = count_by (has_begun day y) (range_with_len 1 12)

-- the day of the month
abbrev pub place_of : ℕ → ℕ → ℤ → ℕ
place_of y m day = unsigned_abs (day -ℤ days_from_civil (pos y) m 1) + 1

abbrev pub civil_text : ℕ → ℕ → ℕ → List ℕ
civil_text y m d = last_digits 4 y ++ 45 ∷ last_digits 2 m ++ 45 ∷ last_digits 2 d

unfoldable pub date_text : ℤ → List ℕ
date_text day = let y = year_of day in let m = month_of y day in civil_text y m (place_of y m day)
