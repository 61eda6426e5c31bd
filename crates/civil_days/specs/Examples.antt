-- Worked examples of dates, each a theorem.
use Rattle.std.specs.Prelude.{◌≡◌, ℕ, List, codes, ℤ, pos, neg_ℤ, Some, None}
use Rattle.civil_days.specs.Dates.{day_number}

-- the text is the date of this day
abbrev pub IsDay : List ℕ → ℤ → Type 0
IsDay z day = day_number z ≡ Some day

abbrev pub IsNoDate : List ℕ → Type 0
IsNoDate z = day_number z ≡ None

abbrev pub WorkedDates : Type 0
WorkedDates =
    IsDay (codes "1970-01-01") (pos 0)
    × IsDay (codes "1969-12-31") (neg_ℤ (pos 1))
    × IsDay (codes "0001-01-01") (neg_ℤ (pos 719162))
    × IsDay (codes "9999-12-31") (pos 2932896)
    × IsDay (codes "1998-09-02") (pos 10471)
    -- leap years: of the centuries only every fourth
    × IsNoDate (codes "1900-02-29")
    × IsDay (codes "2000-02-29") (pos 11016)
    × IsDay (codes "2024-02-29") (pos 19782)
    × IsNoDate (codes "2023-02-29")
    -- no such year, month or day, and no such form
    × IsNoDate (codes "0000-01-01")
    × IsNoDate (codes "2024-00-01")
    × IsNoDate (codes "2024-13-01")
    × IsNoDate (codes "2024-04-31")
    × IsNoDate (codes "2024-01-00")
    × IsNoDate (codes "2024-1-01")
    × IsNoDate (codes "2024/01/01")
