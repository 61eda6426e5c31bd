-- The days of dates are of the years 1 to 9999.
use Rattle.std.proofs.Common.{◌≡◌, ℤ, pos, negsuc, ℕ, List, true, false, Option, Some, None, refl, arith}
use Rattle.std.specs.Prelude.{int_le, nat_le, is_none, unwrap_or}
use Rattle.std.proofs.lemmas.Bool.{and_parts}
use Rattle.std.proofs.lemmas.Bool.Decides.{nat_tests}
use Rattle.number_fields.specs.Ranges.{lies_between}
use Rattle.civil_days.specs.Dates.{day_number, in_range}
use Rattle.table_load.proofs.DayLaws.{date_range}

pub ranged : (z : ℤ) → lies_between (negsuc 719_161) (pos 2_932_896) z ≡ true → in_range z ≡ true
ranged (pos n) h = (and_parts (int_le (negsuc 719_161) (pos n)) (int_le (pos n) (pos 2_932_896)) h).1
ranged (negsuc n) h =
    let low : nat_le n 719_161 ≡ true = (and_parts (int_le (negsuc 719_161) (negsuc n)) (int_le (negsuc n) (pos 2_932_896)) h).0 in
    grind (arith, nat_tests, low)

-- the day of a text that is a date
pub day_ranged : (z : List ℕ) → is_none (day_number z) ≡ false → in_range (unwrap_or (day_number z) (pos 0)) ≡ true
day_ranged z some = by (day_number z) refl some
  where
    by : (o : Option ℤ) → day_number z ≡ o → is_none o ≡ false → in_range (unwrap_or o (pos 0)) ≡ true
    by None e some = absurd (cc)
    by (Some day) e some = ranged day (date_range z day e)
