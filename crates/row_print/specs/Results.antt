-- The text of named vectors, as rows of fields (RFC 4180): of each its name and length, the paths of its attributes, and its slots.
use Rattle.std.specs.Prelude.{ℕ, List, [], ◌∷◌, ◌++◌, map, codes, Some, None, slice_index_or}
use Rattle.std.specs.Fmt.{decimal, signed_decimal}
use Rattle.std.specs.List.{flat_map, range_with_len}
use Rattle.csv.specs.Writing.{default_writer, row_text}
use Rattle.control_vectors.specs.Slots.{Slot}
use Rattle.struct_vectors.specs.Columns.{ColumnValue}
use Rattle.programs.specs.Mentions.{Label}
use Rattle.programs.specs.Vectors.{Vector, Named}

-- a row: its fields
abbrev pub Row : Type 0
Row = List (List ℕ)

-- rows one after the other, each as csv's default writer writes it
abbrev pub rows_text : List Row → List ℕ
rows_text rows = flat_map (row_text default_writer) rows

-- a slot as a field: nothing where it is empty
abbrev pub slot_field : Slot → List ℕ
slot_field None = []
slot_field (Some x) = signed_decimal x

-- an attribute's field at a place
abbrev pub field_at : ℕ → List Slot → List ℕ
field_at i slots = slot_field (slice_index_or slots i None)

-- the row of a place: its number, and the field of each attribute
abbrev pub place_row : List (List Slot) → ℕ → Row
place_row attributes i = decimal i ∷ map (field_at i) attributes

-- the rows of so many places from one on
abbrev pub place_rows : List (List Slot) → ℕ → ℕ → List Row
place_rows attributes from count = map (place_row attributes) (range_with_len from count)

-- the rows above a vector's places: its name and its length; `slot` and the paths
abbrev pub head_rows : Label → ℕ → List Label → List Row
head_rows name len paths = (name ∷ decimal len ∷ []) ∷ (codes "slot" ∷ paths) ∷ []

-- the rows of a vector
abbrev pub result_rows : Label × Vector → List Row
result_rows r = head_rows r.0 r.1.len (map (λ a. a.0) r.1.attributes) ++ place_rows (map (λ a. a.1) r.1.attributes) 0 r.1.len

-- the text of named vectors, in their order
abbrev pub results_text : Named → List ℕ
results_text named = flat_map (λ r. rows_text (result_rows r)) named

-- columns as their slots, however each is kept
abbrev pub slots_in : List ColumnValue → List (List Slot)
slots_in columns = map (λ c. c.slots) columns
