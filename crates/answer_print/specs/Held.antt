-- The rows that a vector holds as an answer: a row for each marked place, with an item's value at each of the paths `.c1`, `.c2` and so on.
-- A null is an empty slot, a date its day, and a text its place in the dictionary.
use Rattle.std.specs.Prelude.{ℕ, ◌+◌, ℤ, pos, negsuc, List, [], ◌∷◌, ◌++◌, length, map, filter, codes, slice_index_or, Bool, Option, Some, None, is_some}
use Rattle.std.specs.Fmt.{decimal}
use Rattle.std.specs.List.{range_with_len}
use Rattle.std.specs.Map.{lookup}
use Rattle.std.specs.Str.{bytes_eq}
use Rattle.control_vectors.specs.Slots.{Slot}
use Rattle.programs.specs.Mentions.{Label}
use Rattle.programs.specs.Vectors.{Vector, Named, known, slots_of}
use Rattle.query_answers.specs.Answers.{Row}
use Rattle.sql_values.specs.Values.{Value, number, text, null}
use Rattle.typed_trees.specs.declared.kinds.Kind.{Kind}
use Rattle.typed_trees.specs.declared.kinds.Kind.TheVariants.{Text}
use Rattle.typed_trees.specs.declared.typed.TypedQuery.{TypedQuery}
use Rattle.typed_trees.specs.Types.{DataType}
use Rattle.answer_texts.specs.Texts.{item_types, text_of}

-- the vector of the result `answer`
abbrev pub answer_in : Named → Vector
answer_in named = known (lookup (bytes_eq (codes "answer")) named)

abbrev pub mark_path : Label
mark_path = codes ".mark"

-- items count from 1
abbrev pub item_path : ℕ → Label
item_path k = codes ".c" ++ decimal k

-- the places whose mark is nonempty, in order
abbrev pub is_marked : List Slot → ℕ → Bool
is_marked marks i = is_some (slice_index_or marks i None)

abbrev pub marked_places : List Slot → List ℕ
marked_places marks = filter (is_marked marks) (range_with_len 0 (length marks))

abbrev pub marked_in : Vector → List ℕ
marked_in v = marked_places (slots_of v.attributes mark_path)

-- a slot as a value of a kind
abbrev pub text_at : List (List ℕ) → ℤ → List ℕ
text_at dictionary (pos n) = slice_index_or dictionary n []
text_at dictionary (negsuc n) = []

abbrev pub number_value : List (List ℕ) → Kind → ℤ → Value
number_value dictionary Text z = text (text_at dictionary z)
number_value dictionary kind z = number z

abbrev pub held_value : List (List ℕ) → Kind → Slot → Value
held_value dictionary kind None = null
held_value dictionary kind (Some z) = number_value dictionary kind z

abbrev pub held_as : List (List ℕ) → Option DataType → Slot → Value
held_as dictionary (Some type) slot = held_value dictionary type.kind slot
held_as dictionary None slot = null

-- an item's type, and the slots that hold its values
pub record ItemColumn : Type 0 where
  pub type : Option DataType
  pub slots : List Slot

abbrev pub item_column : Vector → ℕ → Option DataType → ItemColumn
item_column v k type = record { type = type; slots = slots_of v.attributes (item_path k) }

-- items from the k-th on
abbrev pub item_columns : Vector → ℕ → List (Option DataType) → List ItemColumn
item_columns v k [] = []
item_columns v k (type ∷ types) = item_column v k type ∷ item_columns v (k + 1) types

abbrev pub columns_in : TypedQuery → Vector → List ItemColumn
columns_in q v = item_columns v 1 (item_types q)

abbrev pub held_row : List (List ℕ) → List ItemColumn → ℕ → Row
held_row dictionary columns i = map (λ c. held_as dictionary c.type (slice_index_or c.slots i None)) columns

-- the rows of a query's items
abbrev pub held_rows : List (List ℕ) → TypedQuery → Vector → List Row
held_rows dictionary q v = map (held_row dictionary (columns_in q v)) (marked_in v)

-- their text, below the output names
unfoldable pub held_text : List (List ℕ) → TypedQuery → Named → List ℕ
held_text dictionary q named = text_of q (held_rows dictionary q (answer_in named))
