-- Items as they are printed: the column of each, and its field at a place.
use Rattle.std.specs.Prelude.{ℕ, List, map, slice_index_or, Some, None}
use Rattle.std.specs.List.{range_with_len}
use Rattle.typed_trees.specs.Types.{typed_as}
use Rattle.answer_texts.specs.Fields.{field_of}
use Rattle.row_print.specs.Results.{Row as Fields, rows_text}
use Rattle.answer_print.specs.declared.items.Item.{Item}
use Rattle.answer_print.specs.Held.{ItemColumn, held_as}

abbrev pub seen_item : Item → ItemColumn
seen_item it = record { type = Some (typed_as it.kind it.scale); slots = it.column.now.slots }

abbrev pub seen_items : List Item → List ItemColumn
seen_items items = map seen_item items

abbrev pub shown_field : List (List ℕ) → ℕ → ItemColumn → List ℕ
shown_field dictionary i c = field_of c.type (held_as dictionary c.type (slice_index_or c.slots i None))

abbrev pub shown_row : List (List ℕ) → List ItemColumn → ℕ → Fields
shown_row dictionary columns i = map (shown_field dictionary i) columns

-- the rows of so many places from one on
abbrev pub shown_text : List (List ℕ) → List ItemColumn → ℕ → ℕ → List ℕ
shown_text dictionary columns from count = rows_text (map (shown_row dictionary columns) (range_with_len from count))
