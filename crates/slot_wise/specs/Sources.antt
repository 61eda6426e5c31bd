-- What the operators that work slot by slot read.
use Rattle.std.specs.Prelude.{ℕ, min, length, slice_index_or, Some, None}
use Rattle.control_vectors.specs.Slots.{Slot}
use Rattle.slot_wise.specs.declared.source.Source.{Source}
use Rattle.slot_wise.specs.declared.source.Source.TheVariants.{Column, Number}

-- the slot at a place: a column's, which is empty past its end, or the number
abbrev pub source_at : Source → ℕ → Slot
source_at (Column c) i = slice_index_or c.now.slots i None
source_at (Number z) i = Some z

-- the length of the shorter column, or 0
abbrev pub source_len : Source → Source → ℕ
source_len (Column c) (Column d) = min (length c.now.slots) (length d.now.slots)
source_len (Column c) (Number z) = length c.now.slots
source_len (Number z) (Column d) = length d.now.slots
source_len (Number z) (Number w) = 0
