-- The table of a definition and a file's bytes, or its first refusal by record, then by column. Records are csv's own; the first one is the
-- header, and data records count from 1. Columns count from 1; 0 is the record as a whole.
use Rattle.std.specs.Prelude.{◌≡◌, ◌+◌, ◌==◌, Bool, ℕ, zero, suc, List, [], ◌∷◌, ◌++◌, length, map, Option, Some, None, Result, Ok, Err, if◌then◌else◌, nat_le, ⊤}
use Rattle.std.specs.Char.{to_ascii_lowercase}
use Rattle.std.specs.List.{position_from}
use Rattle.std.specs.Str.{bytes_eq}
use Rattle.sql_read.specs.declared.definition.ColumnDef.{ColumnDef}
use Rattle.sql_read.specs.declared.definition.KeyDef.{KeyDef}
use Rattle.sql_read.specs.declared.definition.TableDef.{TableDef}
use Rattle.sql_types.specs.Catalog.{is_column_named}
use Rattle.sql_values.specs.Values.{Value}
use Rattle.table_load.specs.declared.refusal.DataKind.{DataKind}
use Rattle.table_load.specs.declared.refusal.DataKind.TheVariants.{Header, TooManyRows, FieldCount, KeyTwice}
use Rattle.table_load.specs.declared.refusal.DataRefusal.{DataRefusal}
use Rattle.table_load.specs.declared.refusal.DataRefusal.TheVariants.{Bad, NoMemory}
use Rattle.table_load.specs.Records.{records_of}
use Rattle.table_load.specs.Values.{Table, field_values, same_value, value_at}

-- ---- the header

-- equal without regard to ASCII case
abbrev pub is_same_name : List ℕ → List ℕ → Bool
is_same_name a b = bytes_eq (map to_ascii_lowercase a) (map to_ascii_lowercase b)

-- the first column whose field in the header is not its name
abbrev pub first_other : ℕ → List ColumnDef → List (List ℕ) → Option ℕ
first_other j [] fields = None
first_other j (c ∷ cs) [] = None
first_other j (c ∷ cs) (f ∷ fs) = if is_same_name c.name f then first_other (j + 1) cs fs else Some j

-- at which column a header is refused, if it is
abbrev pub header_refusal : List ColumnDef → List (List ℕ) → Option ℕ
header_refusal columns fields = if length fields == length columns then first_other 1 columns fields else Some 0

-- ---- keys (SQL-92, 4.10.2 "Table constraints")

-- the column that the key names, counted from 0
abbrev pub named_column : List KeyDef → List ColumnDef → Option ℕ
named_column [] columns = None
named_column (k ∷ ks) columns = position_from (is_column_named k.column) 0 columns

abbrev pub key_place : TableDef → Option ℕ
key_place t = named_column t.keys t.columns

-- the first of some rows, counted from 1, whose value in the key's column is equal to this one
abbrev pub row_with_key : ℕ → List (List Value) → Value → Option ℕ
row_with_key key rows v = position_from (λ row. same_value v (value_at key row)) 1 rows

abbrev pub new_key : Value → Option ℕ → Result Value DataKind
new_key v None = Ok v
new_key v (Some earlier) = Err (KeyTwice earlier)

-- a key's value, where no earlier row has it
abbrev pub keyed : (Value → Option ℕ) → Result Value DataKind → Result Value DataKind
keyed earlier (Ok v) = new_key v (earlier v)
keyed earlier (Err kind) = Err kind

abbrev pub keyed_at : ℕ → (Value → Option ℕ) → List (Result Value DataKind) → List (Result Value DataKind)
keyed_at key earlier [] = []
keyed_at zero earlier (r ∷ rs) = keyed earlier r ∷ rs
keyed_at (suc key) earlier (r ∷ rs) = r ∷ keyed_at key earlier rs

-- the values of a record after these rows, with the key's check at its column
abbrev pub with_key : Option ℕ → List (List Value) → List (Result Value DataKind) → List (Result Value DataKind)
with_key None seen values = values
with_key (Some key) seen values = keyed_at key (row_with_key key seen) values

-- ---- rows

abbrev pub before_row : Value → Result (List Value) (ℕ × DataKind) → Result (List Value) (ℕ × DataKind)
before_row v (Ok vs) = Ok (v ∷ vs)
before_row v (Err p) = Err p

-- all of some values, the first of which stands in column j, or the first that is refused, with its column
abbrev pub row_from : ℕ → List (Result Value DataKind) → Result (List Value) (ℕ × DataKind)
row_from j [] = Ok []
row_from j (Ok v ∷ vs) = before_row v (row_from (j + 1) vs)
row_from j (Err kind ∷ vs) = Err (j, kind)

-- the greatest number of rows: 2^20
abbrev pub most_rows : ℕ
most_rows = 1_048_576

-- the row of a record that comes after these rows, or its first refusal
abbrev pub record_row : TableDef → List (List Value) → List (List ℕ) → Result (List Value) (ℕ × DataKind)
record_row t seen fields =
    if nat_le most_rows (length seen) then Err (0, TooManyRows)
    else if length fields == length t.columns then row_from 1 (with_key (key_place t) seen (field_values t t.columns fields))
    else Err (0, FieldCount)

abbrev pub then_rows : Result (List Value) (ℕ × DataKind) → ℕ → (List Value → Result (List (List Value)) DataRefusal) → Result (List (List Value)) DataRefusal
then_rows (Ok row) n more = more row
then_rows (Err p) n more = Err (Bad n p.0 p.1)

-- these rows and those of the records behind them, or the first refusal
unfoldable pub rows_after : TableDef → List (List Value) → List (List (List ℕ)) → Result (List (List Value)) DataRefusal
rows_after t seen [] = Ok seen
rows_after t seen (r ∷ rs) = then_rows (record_row t seen r) (length seen + 1) (λ row. rows_after t (seen ++ row ∷ []) rs)

-- ---- the table

abbrev pub as_table : TableDef → Result (List (List Value)) DataRefusal → Result Table DataRefusal
as_table t (Ok rows) = Ok (record { degree = length t.columns; rows = rows })
as_table t (Err e) = Err e

abbrev pub under_header : Option ℕ → TableDef → List (List (List ℕ)) → Result Table DataRefusal
under_header None t records = as_table t (rows_after t [] records)
under_header (Some column) t records = Err (Bad 0 column Header)

abbrev pub table_of_records : TableDef → List (List (List ℕ)) → Result Table DataRefusal
table_of_records t [] = Err (Bad 0 0 Header)
table_of_records t (h ∷ records) = under_header (header_refusal t.columns h) t records

-- the table of a definition and a file's bytes, or its first refusal
unfoldable pub table_of : TableDef → List ℕ → Result Table DataRefusal
table_of t bytes = table_of_records t (records_of bytes)

-- a call's refusal is that of this answer, unless memory ran out
abbrev pub RefusedBy : {X : Type 0} → Result X DataRefusal → DataRefusal → Type 0
RefusedBy answer NoMemory = ⊤
RefusedBy answer (Bad n column kind) = answer ≡ Err (Bad n column kind)
