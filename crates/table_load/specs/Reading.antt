-- What the parts of a load read, against the table's definition.
use Rattle.std.specs.Prelude.{◌≡◌, ℕ, ◌+◌, if◌then◌else◌, ℤ, Bool, false, List, [], ◌∷◌, ◌++◌, length, map, Option, Some, None, Result, Ok, Err, slice_index_or, ⊤}
use Rattle.std.specs.Option.{option_map}
use Rattle.std.specs.Ordering.{int_eq}
use Rattle.control_vectors.specs.Slots.{Slot}
use Rattle.sql_values.specs.Values.{Value}
use Rattle.table_load.specs.declared.refusal.DataKind.{DataKind}
use Rattle.table_load.specs.declared.refusal.DataRefusal.{DataRefusal}
use Rattle.table_load.specs.declared.refusal.DataRefusal.TheVariants as refusal
use Rattle.table_load.specs.declared.fields.FieldRefusal.{FieldRefusal}
use Rattle.table_load.specs.declared.fields.FieldRefusal.TheVariants as field
use Rattle.table_load.specs.Tables.{row_with_key}
use Rattle.table_load.specs.HeldColumns.{AreCells, IsCell, noted, value_in, value_of, values_of}

-- a field's reading is its value's, unless memory ran out
abbrev pub ReadsField : List (List ℕ) → Bool → Result Slot FieldRefusal → Result Value DataKind → Type 0
ReadsField texts k (Ok z) value = (value ≡ Ok (value_of texts k z)) × IsCell (length texts) k z
ReadsField texts k (Err field.NoMemory) value = ⊤
ReadsField texts k (Err (field.Bad kind)) value = value ≡ Err kind

-- the same of a field of a column that is not of texts
abbrev pub ReadsNumber : Result Slot FieldRefusal → Result Value DataKind → Type 0
ReadsNumber (Ok cell) value = value ≡ Ok (value_of [] false cell)
ReadsNumber (Err field.NoMemory) value = ⊥
ReadsNumber (Err (field.Bad kind)) value = value ≡ Err kind

-- some values are those of cells, up to the first that is refused
abbrev pub ReadsFields : List (List ℕ) → List Bool → List Slot → Option (ℕ × DataKind) → List (Result Value DataKind) → Type 0
ReadsFields texts ks cells None values = (values ≡ map (λ v. Ok v) (values_of texts ks cells)) × (length cells ≡ length ks)
ReadsFields texts ks cells (Some p) values =
    (rest : List (Result Value DataKind)) × (values ≡ map (λ v. Ok v) (values_of texts ks cells) ++ Err p.1 ∷ rest) × (p.0 ≡ length cells + 1)

-- the number of a key's cell, unless it is empty
abbrev pub key_cell : ℕ → List Slot → Option ℤ
key_cell key cells = slice_index_or cells key None

-- where it has an earlier row: the column, and that row
abbrev pub twice_at : ℕ → (ℤ → Option ℕ) → Option ℤ → Option (ℕ × ℕ)
twice_at key earlier None = None
twice_at key earlier (Some z) = option_map (λ row. (key + 1, row)) (earlier z)

abbrev pub key_twice : Option ℕ → (ℤ → Option ℕ) → List Slot → Option (ℕ × ℕ)
key_twice None earlier cells = None
key_twice (Some key) earlier cells = twice_at key earlier (key_cell key cells)

-- the rows of keys' cells, with this row's key noted
abbrev pub noted_cell : Option ℤ → ℕ → (ℤ → Option ℕ) → ℤ → Option ℕ
noted_cell None row earlier q = earlier q
noted_cell (Some z) row earlier q = if int_eq z q then Some row else earlier q

abbrev pub noted_places : Option ℕ → List Slot → ℕ → (ℤ → Option ℕ) → ℤ → Option ℕ
noted_places None cells row earlier q = earlier q
noted_places (Some key) cells row earlier q = noted_cell (key_cell key cells) row earlier q

-- the rows of keys' cells are those of their values
abbrev pub Agrees : Option ℕ → List (List ℕ) → List Bool → List (List Value) → (ℤ → Option ℕ) → Type 0
Agrees None texts ks seen earlier = ⊤
Agrees (Some key) texts ks seen earlier =
    (z : ℤ) → IsCell (length texts) (slice_index_or ks key false) (Some z) → row_with_key key seen (value_in texts (slice_index_or ks key false) z) ≡ earlier z

-- texts were noted, unless memory ran out
abbrev pub HasNoted : List (List ℕ) → List (List ℕ) → Result (Unit {0}) DataRefusal → Type 0
HasNoted old new (Ok u) = (more : List (List ℕ)) × (new ≡ noted old more)
HasNoted old new (Err refusal.NoMemory) = ⊤
HasNoted old new (Err (refusal.Bad row column kind)) = (more : List (List ℕ)) × (new ≡ noted old more)

-- a record's reading is its row's, unless memory ran out
abbrev pub ReadsRecord : List (List ℕ) → List Bool → List Slot → ℕ → Result (Unit {0}) DataRefusal → Result (List Value) (ℕ × DataKind) → Type 0
ReadsRecord texts ks cells n (Ok u) row = (row ≡ Ok (values_of texts ks cells)) × AreCells (length texts) ks cells × (length cells ≡ length ks)
ReadsRecord texts ks cells n (Err refusal.NoMemory) row = ⊤
ReadsRecord texts ks cells n (Err (refusal.Bad record_ column kind)) row = (record_ ≡ n + 1) × (row ≡ Err (column, kind))
