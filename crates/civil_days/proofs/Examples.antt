-- The worked examples, computed.
use Rattle.std.proofs.Common.{refl}
use Rattle.civil_days.proofs.Computing.{days_of_years, days_of_months, day_count, days_from_civil}
use Rattle.civil_days.specs.Examples.{WorkedDates}

pub worked_dates : WorkedDates
unfolding days_from_civil day_count days_of_years days_of_months
worked_dates = (refl, refl, refl, refl, refl, refl, refl, refl, refl, refl, refl, refl, refl, refl, refl, refl)
