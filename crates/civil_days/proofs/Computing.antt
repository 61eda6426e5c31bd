-- What a proof unfolds to compute the day number of a date.
unfoldable pub use Rattle.jiff_core.specs.Calendar.{days_of_years, days_of_months, day_count, days_from_civil}
