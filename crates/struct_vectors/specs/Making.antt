-- What a maker holds.
use Rattle.std.specs.Prelude.{◌≡◌, ◌≤◌, ◌^◌, not, length, vec_len, vec_capacity}
use Rattle.std.specs.List.{list_any}
use Rattle.struct_vectors.specs.declared.makers.ColumnMaker.TheInside.{Inside}
use Rattle.struct_vectors.specs.Numbers.{numbers_in, is_wide, capacity_of}
use Rattle.struct_vectors.specs.Columns.{marked_slots}
use Rattle.struct_vectors.specs.Makers.{MakerValue}

abbrev pub made_of : Inside → MakerValue
made_of m = record { room = m.room; wide = is_wide m.numbers; slots = marked_slots (numbers_in m.numbers) m.marks.items }

-- room for each slot that may come, and a mark for each that has
pub record IsReady (m : Inside) : Type 0 where
  pub few : m.room ≤ 2 ^ 22
  pub within : vec_len m.marks ≤ m.room
  pub lengths : length m.marks.items ≡ length (numbers_in m.numbers)
  pub numbers_room : m.room ≤ capacity_of m.numbers
  pub marks_room : m.room ≤ vec_capacity m.marks
  pub empties : m.some_empty ≡ list_any not m.marks.items
