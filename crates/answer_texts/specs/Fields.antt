-- A value as a field of a text, by the type of its expression. After SQL-92 (ISO/IEC 9075:1992), 5.3 <literal>, without quotes; a null is nothing.
use Rattle.std.specs.Prelude.{ℕ, ℤ, List, [], Option, Some, None}
use Rattle.sql_values.specs.Values.{Value, number, text, truth, null}
use Rattle.typed_trees.specs.declared.kinds.Kind.{Kind}
use Rattle.typed_trees.specs.declared.kinds.Kind.TheVariants.{Date}
use Rattle.typed_trees.specs.Types.{DataType}
use Rattle.answer_texts.specs.Dates.{date_text}
use Rattle.answer_texts.specs.Numbers.{number_text}

-- a date is the number of its day
abbrev pub number_field : Kind → ℕ → ℤ → List ℕ
number_field Date scale z = date_text z
number_field kind scale z = number_text scale z

abbrev pub value_field : DataType → Value → List ℕ
value_field type (number z) = number_field type.kind type.scale z
value_field type (text t) = t
-- no item is a truth
value_field type (truth b) = []
value_field type null = []

-- each item of a typed query has a type
abbrev pub field_of : Option DataType → Value → List ℕ
field_of (Some type) v = value_field type v
field_of None v = []
