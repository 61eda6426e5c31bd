-- A table by rules: which records make which rows, and which record is the first that is refused. Each stands beside the answer for each file, as a law.
use Rattle.std.specs.Prelude.{◌≡◌, ℕ, ◌+◌, ◌<◌, List, [], length, take, slice_index_or, Result, Ok, Err, MatchResult}
use Rattle.sql_read.specs.declared.definition.TableDef.{TableDef}
use Rattle.sql_values.specs.Values.{Value}
use Rattle.table_load.specs.declared.refusal.DataKind.{DataKind}
use Rattle.table_load.specs.declared.refusal.DataRefusal.{DataRefusal}
use Rattle.table_load.specs.declared.refusal.DataRefusal.TheVariants.{Bad, NoMemory}
use Rattle.table_load.specs.Tables.{record_row, rows_after}

-- a row for each record: record k, counted from 0, is read as row k, where none of the rows before it has its key
pub record AreRows (t : TableDef) (records : List (List (List ℕ))) (rows : List (List Value)) : Type 0 where
  pub as_many : length rows ≡ length records
  pub each : (k : ℕ) → k < length records → record_row t (take k rows) (slice_index_or records k []) ≡ Ok (slice_index_or rows k [])

-- the records before record k make rows, and after these rows it is refused at this column for this cause
pub record IsFirstRefused (t : TableDef) (records : List (List (List ℕ))) (k column : ℕ) (kind : DataKind) : Type 0 where
  pub within : k < length records
  pub rows : List (List Value)
  pub before : AreRows t (take k records) rows
  pub refused : record_row t rows (slice_index_or records k []) ≡ Err (column, kind)

-- the records count from 1 in what a refusal says
abbrev pub RefusesAt : TableDef → List (List (List ℕ)) → DataRefusal → Type 0
RefusesAt t records NoMemory = ⊥
RefusesAt t records (Bad n column kind) = (k : ℕ) × (n ≡ k + 1) × IsFirstRefused t records k column kind

-- the records of a table make rows, or the first that is refused decides
abbrev pub TableRule : Type 0
TableRule = (t : TableDef) (records : List (List (List ℕ))) → MatchResult (rows_after t [] records) (AreRows t records) (RefusesAt t records)

-- what fits the rule is the answer: so records make one list of rows, or have one first refusal, and never both
abbrev pub OneAnswer : Type 0
OneAnswer = (t : TableDef) (records : List (List (List ℕ))) (answer : Result (List (List Value)) DataRefusal) → MatchResult answer (AreRows t records) (RefusesAt t records) → rows_after t [] records ≡ answer
