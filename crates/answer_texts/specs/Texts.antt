-- The text of a query's answer: a row of the output names, then the answer's rows, as csv's default writer writes them (RFC 4180).
use Rattle.std.specs.Prelude.{ℕ, List, ◌∷◌, map, zip, Option, Result, Ok}
use Rattle.control_vectors.specs.declared.Over.{Over}
use Rattle.row_print.specs.Results.{Row as Fields, rows_text}
use Rattle.table_load.specs.Values.{Table}
use Rattle.typed_trees.specs.declared.typed.TypedQuery.{TypedQuery}
use Rattle.typed_trees.specs.Types.{DataType, type_of, types_of}
use Rattle.query_answers.specs.Answers.{Row, query_answer}
use Rattle.query_answers.specs.Overs.{◌>>=◌}
use Rattle.answer_texts.specs.Fields.{field_of}

-- the type of each item, over those of the query's aggregates
abbrev pub item_types : TypedQuery → List (Option DataType)
item_types q = map (type_of (types_of q.aggregates)) q.items

abbrev pub fields_of : List (Option DataType) → Row → Fields
fields_of types row = map (λ x. field_of x.0 x.1) (zip types row)

abbrev pub text_of : TypedQuery → List Row → List ℕ
text_of q rows = rows_text (q.names ∷ map (fields_of (item_types q)) rows)

-- the text of the answer, or Over where it is
abbrev pub answer_text : List Table → TypedQuery → Result (List ℕ) Over
answer_text tables q = do
  rows ← query_answer tables q
  Ok (text_of q rows)
