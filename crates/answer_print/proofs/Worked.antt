-- The worked texts, by the type of each item, and each date by the day that it is read as.
use Rattle.std.proofs.Common.{◌≡◌, pos, negsuc, refl}
use Rattle.std.specs.Prelude.{codes}
use Rattle.std.specs.Fmt.{digits}
use Rattle.csv.specs.Writing.{escaped, fields_text, is_blank}
use Rattle.typed_trees.proofs.TypeForms.{type_Column}
use Rattle.civil_days.proofs.Computing.{days_of_years, days_of_months, day_count, days_from_civil}
use Rattle.answer_texts.specs.Dates.{date_text}
use Rattle.answer_texts.specs.DateLaws.{PrintedDate}
use Rattle.answer_print.specs.Examples.{HeldTexts}
use Rattle.answer_print.specs.Held.{held_text}

last_of_1969 : PrintedDate → date_text (negsuc 0) ≡ codes "1969-12-31"
unfolding days_from_civil day_count days_of_years days_of_months
last_of_1969 printed = printed (codes "1969-12-31") (negsuc 0) refl

of_1998 : PrintedDate → date_text (pos 10471) ≡ codes "1998-09-02"
unfolding days_from_civil day_count days_of_years days_of_months
of_1998 printed = printed (codes "1998-09-02") (pos 10471) refl

pub held_texts : PrintedDate → HeldTexts
unfolding held_text digits escaped fields_text is_blank
held_texts printed = simp (type_Column, of_1998 printed, last_of_1969 printed) refl
