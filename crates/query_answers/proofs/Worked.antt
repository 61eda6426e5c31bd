-- Worked answers, by the value of each form of an expression.
use Rattle.std.proofs.Common.{refl}
use Rattle.typed_values.proofs.Evaluations.{value_Number, value_Text, value_Column, value_Aggregate, value_Not, value_Binary, value_IsNull, value_Coalesce}
use Rattle.typed_trees.proofs.ScaleForms.{scale_Number, scale_Text, scale_Column, scale_Aggregate, scale_Not, scale_Binary, scale_IsNull, scale_Coalesce}
use Rattle.dict_codes.specs.Ascending.{ascending}
use Rattle.query_answers.specs.Answers.{answer}
use Rattle.query_answers.specs.Examples.{Totals, Rows, Nulls, Decimals, Steps}

ruleset values = (value_Number, value_Text, value_Column, value_Aggregate, value_Not, value_Binary, value_IsNull, value_Coalesce, scale_Number, scale_Text, scale_Column, scale_Aggregate, scale_Not, scale_Binary, scale_IsNull, scale_Coalesce)

pub totals : Totals
unfolding answer ascending
totals = record {
  a_sum = simp values refl;
  a_wide_sum = simp values refl;
  a_sum_too_wide = simp values refl;
  a_sum_that_cancels = simp values refl;
  no_rows = simp values refl;
  of_texts = simp values refl;
}

pub rows : Rows
unfolding answer ascending
rows = record {
  below_a_text = simp values refl;
  equal_to_a_text = simp values refl;
  a_key_that_is_not_there = refl;
  a_null_key = refl;
  a_key_that_is_there = simp values refl;
  a_part_too_wide = simp values refl;
  pairs = simp values refl;
  two_keys = simp values refl;
  a_source_with_a_condition = simp values refl;
  ties = simp values refl;
}

pub nulls : Nulls
unfolding answer ascending
nulls = record {
  a_null_group = simp values refl;
  a_total_in_having = simp values refl;
  distinct_turned = simp values refl;
  not_of_unknown = simp values refl;
  the_first_value = simp values refl;
  nulls_last = simp values refl;
  is_null = simp values refl;
}

pub decimals : Decimals
unfolding answer ascending
decimals = record {
  sums = simp values refl;
  below_a_thousandth = simp values refl;
}

pub steps : Steps
unfolding answer ascending
steps = record {
  from = refl;
  where_ = simp values refl;
  groups = refl;
  of_null = simp values refl;
  of_x = simp values refl;
  of_z = simp values refl;
  rows = simp values refl;
}
