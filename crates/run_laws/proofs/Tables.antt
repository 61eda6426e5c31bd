-- A file's bytes are a table, or one of their records is refused.
use Rattle.std.proofs.Common.{◌≡◌, ℕ, ◌+◌, List, [], ◌∷◌, ◌++◌, length, Ok, Err, Some, None, refl}
use Rattle.std.specs.Prelude.{Option, Result}
use Rattle.sql_read.specs.declared.definition.TableDef.{TableDef}
use Rattle.sql_values.specs.Values.{Value}
use Rattle.table_load.specs.declared.refusal.DataKind.{DataKind}
use Rattle.table_load.specs.declared.refusal.DataRefusal.{DataRefusal}
use Rattle.table_load.specs.declared.refusal.DataRefusal.TheVariants as loading
use Rattle.table_load.specs.Records.{records_of}
use Rattle.table_load.specs.Tables.{table_of, table_of_records, under_header, header_refusal, as_table, rows_after, then_rows, record_row}
use Rattle.run_laws.specs.Laws.{TableLaw}

then_never : (r : Result (List Value) (ℕ × DataKind)) (n : ℕ) (more : List Value → Result (List (List Value)) DataRefusal) → ((row : List Value) → more row ≡ Err loading.NoMemory → ⊥) → then_rows r n more ≡ Err loading.NoMemory → ⊥
then_never (Ok row) n more h e = h row e
then_never (Err p) n more h e = cc

rows_never : (t : TableDef) (seen : List (List Value)) (records : List (List (List ℕ))) → rows_after t seen records ≡ Err loading.NoMemory → ⊥
unfolding rows_after
rows_never t seen [] e = cc
rows_never t seen (r ∷ rs) e =
    then_never (record_row t seen r) (length seen + 1) (λ row. rows_after t (seen ++ row ∷ []) rs) (λ row. rows_never t (seen ++ row ∷ []) rs) e

as_never : (t : TableDef) (r : Result (List (List Value)) DataRefusal) → (r ≡ Err loading.NoMemory → ⊥) → as_table t r ≡ Err loading.NoMemory → ⊥
as_never t (Ok rows) h e = cc
as_never t (Err loading.NoMemory) h e = h refl
as_never t (Err (loading.Bad n column kind)) h e = cc

header_never : (column : Option ℕ) (t : TableDef) (records : List (List (List ℕ))) → under_header column t records ≡ Err loading.NoMemory → ⊥
header_never None t records e = as_never t (rows_after t [] records) (rows_never t [] records) e
header_never (Some column) t records e = cc

records_never : (t : TableDef) (records : List (List (List ℕ))) → table_of_records t records ≡ Err loading.NoMemory → ⊥
records_never t [] e = cc
records_never t (h ∷ records) e = header_never (header_refusal t.columns h) t records e

pub table_law : TableLaw
unfolding table_of
table_law t bytes e = records_never t (records_of bytes) e
