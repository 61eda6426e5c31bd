-- Worked answers of plans, by computation.
use Rattle.std.proofs.Common.{refl}
use Rattle.typed_trees.proofs.NameForms.{names_Number, names_Column, names_Binary}
use Rattle.typed_trees.proofs.ScaleForms.{scale_Number, scale_Column, scale_Binary}
use Rattle.typed_values.proofs.Evaluations.{value_Number, value_Column, value_Binary}
use Rattle.query_answers.specs.Answers.{answer}
use Rattle.plan_laws.specs.Examples.{MovedConditions}

ruleset named = (names_Number, names_Column, names_Binary)

ruleset values = (value_Number, value_Column, value_Binary, scale_Number, scale_Column, scale_Binary)

pub moved_conditions : MovedConditions
unfolding answer
moved_conditions = record {
  over_a_pair = simp values refl;
  moved_all_the_same = simp (named, values) refl;
  no_pair = refl;
  narrow_stays = simp values refl;
  narrow_moves = simp (named, values) refl;
}
