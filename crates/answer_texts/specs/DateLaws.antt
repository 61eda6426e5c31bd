-- The text of a day is its date: a text that is a date is that of its day, and each day of the years 1 to 9999 is read again from its text.
use Rattle.std.specs.Prelude.{◌≡◌, ℕ, ℤ, true, List, Some}
use Rattle.civil_days.specs.Dates.{day_number, in_range}
use Rattle.answer_texts.specs.Dates.{date_text}

abbrev pub PrintedDate : Type 0
PrintedDate = (z : List ℕ) (day : ℤ) → day_number z ≡ Some day → date_text day ≡ z

abbrev pub EveryDay : Type 0
EveryDay = (day : ℤ) → in_range day ≡ true → day_number (date_text day) ≡ Some day
