-- Worked texts, by the value, the scale and the type of each form of an expression.
use Rattle.std.proofs.Common.{◌≡◌, pos, negsuc, refl}
use Rattle.std.specs.Prelude.{codes}
use Rattle.std.specs.Fmt.{digits}
use Rattle.csv.specs.Writing.{escaped, fields_text, is_blank}
use Rattle.typed_values.proofs.Evaluations.{value_Number, value_Text, value_Column, value_Aggregate, value_Not, value_Binary, value_IsNull, value_Coalesce}
use Rattle.typed_trees.proofs.ScaleForms.{scale_Number, scale_Text, scale_Column, scale_Aggregate, scale_Not, scale_Binary, scale_IsNull, scale_Coalesce}
use Rattle.typed_trees.proofs.TypeForms.{type_Number, type_Column, type_Aggregate, type_Binary}
use Rattle.dict_codes.specs.Ascending.{ascending}
use Rattle.query_answers.specs.Answers.{answer}
use Rattle.civil_days.proofs.Computing.{days_of_years, days_of_months, day_count, days_from_civil}
use Rattle.answer_texts.specs.Dates.{date_text}
use Rattle.answer_texts.specs.Examples.{DateTexts, NumberTexts, Texts}
use Rattle.answer_texts.proofs.DateTexts.{printed}

ruleset forms = (value_Number, value_Text, value_Column, value_Aggregate, value_Not, value_Binary, value_IsNull, value_Coalesce, scale_Number, scale_Text, scale_Column, scale_Aggregate, scale_Not, scale_Binary, scale_IsNull, scale_Coalesce, type_Number, type_Column, type_Aggregate, type_Binary)

pub numbers : NumberTexts
unfolding digits
numbers = (refl, refl, refl, refl, refl, refl, refl, refl, refl)

-- each is read as its day
pub dates : DateTexts
unfolding days_from_civil day_count days_of_years days_of_months
dates = (
  printed (codes "1970-01-01") (pos 0) refl,
  printed (codes "1969-12-31") (negsuc 0) refl,
  printed (codes "1969-01-01") (negsuc 364) refl,
  printed (codes "1968-12-31") (negsuc 365) refl,
  printed (codes "1998-09-02") (pos 10471) refl,
  printed (codes "2000-02-29") (pos 11016) refl,
  printed (codes "0001-01-01") (negsuc 719161) refl,
  printed (codes "9999-12-31") (pos 2932896) refl,
)

last_of_1969 : date_text (negsuc 0) ≡ codes "1969-12-31"
last_of_1969 = dates.1

of_1998 : date_text (pos 10471) ≡ codes "1998-09-02"
of_1998 = dates.4

first_day : date_text (negsuc 719161) ≡ codes "0001-01-01"
first_day = dates.6

last_day : date_text (pos 2932896) ≡ codes "9999-12-31"
last_day = dates.7

pub texts : Texts
unfolding answer ascending digits escaped fields_text is_blank
texts = record {
  a_sum = simp forms refl;
  a_sum_too_wide = simp forms refl;
  no_rows = simp forms refl;
  a_header = simp forms refl;
  a_null = simp forms refl;
  nulls = simp forms refl;
  quoted = simp forms refl;
  decimals = simp forms refl;
  below_a_thousandth = simp forms refl;
  dates = simp (forms, of_1998, last_of_1969, first_day, last_day) refl;
  totals_of_dates = simp (forms, first_day, last_day) refl;
}
