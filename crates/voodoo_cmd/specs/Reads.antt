-- What the reading of a schema and its tables gives.
use Rattle.std.specs.Prelude.{◌≡◌, ◌⊎◌, ℕ, List, Option, Ok, Err, IfSome}
use Rattle.io_edge.specs.Faults.{Rose}
use Rattle.io_edge.specs.Shelves.{FileMap, Lacks}
use Rattle.table_load.specs.Databases.{DatabaseValue}
use Rattle.table_load.specs.Values.{Table}
use Rattle.run_steps.specs.declared.status.FileRole.TheVariants.{Text}
use Rattle.run_steps.specs.declared.status.Status.{Status}
use Rattle.run_steps.specs.declared.status.Status.TheVariants.{Done, Usage, ReadFault, WriteFault, NoMemory}
use Rattle.run_steps.specs.Loaded.{AreTablesOf}
use Rattle.run_steps.specs.Outcomes.{Outcome, IsReadFault}
use Rattle.run_steps.specs.Steps.{tables_in}

-- a database of tables, which are those of the files where the shelf tells them
pub record IsRead (holds : Option FileMap) (schema : List ℕ) (db : DatabaseValue) : Type 0 where
  pub tables : List Table
  pub are : AreTablesOf db tables
  pub read : IfSome holds (λ files. tables_in files schema ≡ Ok (record { defs = db.defs; tables = tables }))

-- a step's refusal is the expected one, or in its place a read fault or want of memory
abbrev pub Stops : {A : Type 0} → Status → Outcome A → Type 0
Stops status outcome = (outcome ≡ Err status) ⊎ (IsReadFault status ⊎ (status ≡ NoMemory))

-- how the reading of the text and its answer may end but with that. A read fault comes only where the count of faults rose, or the shelf tells
-- that it lacks the text's file
abbrev pub HasTextCause : Option FileMap → List ℕ → ℕ → ℕ → Status → Type 0
HasTextCause holds name before now (ReadFault r) = (r ≡ Text) × (Rose before now ⊎ Lacks holds name)
HasTextCause holds name before now Done = ⊥
HasTextCause holds name before now (Usage kind) = ⊥
HasTextCause holds name before now WriteFault = ⊥
HasTextCause holds name before now _ = Unit {0}
