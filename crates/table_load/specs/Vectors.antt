-- The attributes of a table as it is held, with its texts as codes.
use Rattle.std.specs.Prelude.{◌≡◌, ◌≢◌, ℕ, ◌≤◌, ◌==◌, ◌&&◌, ℤ, pos, negsuc, Bool, true, false, List, [], ◌∷◌, length, map, slice_index_or}
use Rattle.std.specs.List.{All, AllPairs}
use Rattle.std.specs.Option.{option_map}
use Rattle.control_vectors.specs.Slots.{Slot}
use Rattle.sql_read.specs.declared.definition.ColumnDef.{ColumnDef}
use Rattle.sql_read.specs.declared.definition.TableDef.{TableDef}
use Rattle.sql_read.specs.Forms.{is_name, IsNamed}
use Rattle.struct_vectors.specs.Columns.{ColumnValue}
use Rattle.table_load.specs.Databases.{in_64_bits, path_of}

-- the code of the text of a place, where the texts have these codes
abbrev pub code_at : List ℤ → ℤ → ℤ
code_at codes (pos n) = slice_index_or codes n (pos 0)
code_at codes (negsuc n) = pos 0

-- a cell as the slot that a vector has for it
abbrev pub cell_slot : List ℤ → Bool → Slot → Slot
cell_slot codes true cell = option_map (code_at codes) cell
cell_slot codes false cell = cell

abbrev pub recoded : List ℤ → Bool → List Slot → List Slot
recoded codes k cells = map (cell_slot codes k) cells

-- a column's attribute
abbrev pub attribute_in : List ℤ → ColumnDef → Bool → List Slot → List ℕ × ColumnValue
attribute_in codes def k cells = (path_of def, in_64_bits (recoded codes k cells))

abbrev pub attributes_in : List ℤ → List Bool → List (List Slot) → List ColumnDef → List (List ℕ × ColumnValue)
attributes_in codes ks cs [] = []
attributes_in codes [] cs (d ∷ ds) = []
attributes_in codes (k ∷ ks) [] (d ∷ ds) = []
attributes_in codes (k ∷ ks) (c ∷ cs) (d ∷ ds) = attribute_in codes d k c ∷ attributes_in codes ks cs ds

-- ---- definitions whose columns make a vector

-- 1 to 64 columns, each with a name, and no two with one
pub record HasColumns (def : TableDef) : Type 0 where
  pub some : 1 ≤ length def.columns
  pub few : length def.columns ≤ 64
  pub named : All IsNamed def.columns
  pub apart : AllPairs (λ a b. a.name ≢ b.name) def.columns

-- a dot and a name
abbrev pub is_column_path : List ℕ → Bool
is_column_path [] = false
is_column_path (b ∷ name) = b == 46 && is_name name

-- paths of columns, no two of which are equal
pub record AreColumnPaths (paths : List (List ℕ)) : Type 0 where
  pub each : All (λ p. is_column_path p ≡ true) paths
  pub apart : AllPairs (λ p q. p ≢ q) paths
