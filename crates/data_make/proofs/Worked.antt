-- The worked tables, computed. The text of a date is that which is read as its day.
use Rattle.std.proofs.Common.{◌≡◌, pos, refl}
use Rattle.std.specs.Prelude.{codes}
use Rattle.std.specs.Fmt.{digits}
use Rattle.civil_days.proofs.Computing.{days_of_years, days_of_months, day_count, days_from_civil}
use Rattle.answer_texts.specs.Dates.{date_text}
use Rattle.answer_texts.specs.DateLaws.{PrintedDate}
use Rattle.data_make.specs.Examples.{WorkedTables}

pub worked : PrintedDate → WorkedTables
unfolding days_from_civil day_count days_of_years days_of_months digits
worked printed =
    let in_may : date_text (pos 8177) ≡ codes "1992-05-22" = printed (codes "1992-05-22") (pos 8177) refl in
    let in_february : date_text (pos 8071) ≡ codes "1992-02-06" = printed (codes "1992-02-06") (pos 8071) refl in
    let first_day : date_text (pos 8035) ≡ codes "1992-01-01" = printed (codes "1992-01-01") (pos 8035) refl in
    let last_day : date_text (pos 10591) ≡ codes "1998-12-31" = printed (codes "1998-12-31") (pos 10591) refl in
    let leap : date_text (pos 8094) ≡ codes "1992-02-29" = printed (codes "1992-02-29") (pos 8094) refl in
    let in_june : date_text (pos 9664) ≡ codes "1996-06-17" = printed (codes "1996-06-17") (pos 9664) refl in
    record {
      first = refl;
      last = refl;
      two_rows = simp (in_may, in_february) refl;
      first_date = simp (first_day) refl;
      last_date = simp (last_day) refl;
      leap_day = simp (leap) refl;
      greatest = simp (in_june) refl;
      rest = simp (in_may) refl;
    }
