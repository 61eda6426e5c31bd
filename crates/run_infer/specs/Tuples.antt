-- Columns that stand side by side.
use Rattle.std.specs.Prelude.{◌≡◌, ℕ, List, length, map}
use Rattle.std.specs.List.{All}
use Rattle.control_vectors.specs.Slots.{Slot}
use Rattle.struct_vectors.specs.Columns.{ColumnValue}

-- each of them has so many slots
abbrev pub HaveLength : ℕ → List ColumnValue → Type 0
HaveLength n columns = All (λ column. length column.slots ≡ n) columns

-- the slots of each, and how many there are
pub record PartsListed : Type 0 where
  pub parts : List (List Slot)
  pub length : ℕ

abbrev pub parts_of : List ColumnValue → ℕ → PartsListed
parts_of columns n = record { parts = map (λ column. column.slots) columns; length = n }
