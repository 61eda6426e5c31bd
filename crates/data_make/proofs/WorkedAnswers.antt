-- The worked answer, computed.
use Rattle.std.proofs.Common.{refl}
use Rattle.std.specs.Fmt.{digits}
use Rattle.csv.specs.Writing.{escaped, fields_text, is_blank}
use Rattle.typed_values.proofs.Evaluations.{value_Column, value_Aggregate, value_Binary, value_Date}
use Rattle.typed_trees.proofs.ScaleForms.{scale_Column, scale_Date}
use Rattle.typed_trees.proofs.TypeForms.{type_Column, type_Aggregate}
use Rattle.dict_codes.specs.Ascending.{ascending}
use Rattle.query_answers.specs.Answers.{answer}
use Rattle.data_make.specs.Answers.{WorkedAnswer}

pub worked_answer : WorkedAnswer
unfolding answer ascending digits escaped fields_text is_blank
worked_answer = simp (value_Column, value_Aggregate, value_Binary, value_Date, scale_Column, scale_Date, type_Column, type_Aggregate) refl
