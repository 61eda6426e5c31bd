-- That the test of a date is the calendar's own.
use Rattle.std.proofs.Common.{◌≡◌, ◌∙◌, ◌≤◌, ℕ, ℤ, pos, true, Some, refl, ap, arith}
use Rattle.std.proofs.lemmas.Bool.{and_from, le-leb}
use Rattle.std.proofs.lemmas.Int.{ints}
use Rattle.jiff_core.specs.Calendar.{IsDate, days_from_civil}
use Rattle.civil_days.specs.Dates.{day_of_civil, is_civil_date}

pub civil-date : (y m d : ℕ) → 1 ≤ y → IsDate (pos y) (pos m) (pos d) → is_civil_date y m d ≡ true
civil-date y m d low h =
    and_from _ _ (and_from _ _ (and_from _ _ (and_from _ _ (le-leb 1 y low) (le-leb 1 m (omega (arith, ints)))) (le-leb m 12 (omega (arith, ints)))) (le-leb 1 d (omega (arith, ints)))) (le-leb d _ (omega (arith, ints)))

pub some-day : (r : ℤ) (y m d : ℕ) (year : ℤ) (month day : ℕ) → 1 ≤ y → IsDate (pos y) (pos m) (pos d) → year ≡ pos y → pos month ≡ pos m → pos day ≡ pos d
    → r ≡ days_from_civil year month day → Some r ≡ day_of_civil y m d
some-day r y m d year month day low h ey em ed e =
    let m-same : month ≡ m = cc in
    let d-same : day ≡ d = cc in
    rw (civil-date y m d low h) (ap Some (e ∙ rw (ey, m-same, d-same) refl))
