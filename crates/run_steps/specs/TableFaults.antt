-- Why the reading of the tables may end with a read fault.
use Rattle.std.specs.Prelude.{ℕ, ◌≡◌, ◌+◌, ◌≤◌, ◌⊎◌, List, length, take, slice_get, Option, Some, None, Ok}
use Rattle.io_edge.specs.Faults.{Rose}
use Rattle.io_edge.specs.Shelves.{FileMap}
use Rattle.sql_read.specs.declared.definition.TableDef.{TableDef}
use Rattle.table_load.specs.Values.{Table as TableValue}
use Rattle.run_steps.specs.declared.status.FileRole.{FileRole}
use Rattle.run_steps.specs.declared.status.FileRole.TheVariants.{Table}
use Rattle.run_steps.specs.declared.status.Status.{Status}
use Rattle.run_steps.specs.declared.status.Status.TheVariants.{ReadFault, WriteFault, Done, Usage, Overflow}
use Rattle.run_steps.specs.Paths.{table_file}
use Rattle.run_steps.specs.Steps.{tables_from}

-- a table with that number is defined
abbrev pub IsNumbered : List TableDef → FileRole → Type 0
IsNumbered defs (Table k) = (1 ≤ k) × (k ≤ length defs)
IsNumbered defs _ = ⊥

-- the tables before that one are all there, and the count of faults rose or its file is missing
pub record TableFault (files : FileMap) (schema : List ℕ) (defs : List TableDef) (before now : ℕ) (role : FileRole) : Type 0 where
  pub place : ℕ
  pub role_is : role ≡ Table (place + 1)
  pub def : TableDef
  pub def_is : slice_get defs place ≡ Some def
  pub earlier : List TableValue
  pub earlier_are : tables_from files schema 1 (take place defs) ≡ Ok earlier
  pub cause : Rose before now ⊎ (files (table_file schema def.name) ≡ None)

-- the same where the shelf need not tell what it holds
abbrev pub HasTableFault : Option FileMap → List ℕ → List TableDef → ℕ → ℕ → FileRole → Type 0
HasTableFault None schema defs before now role = Rose before now
HasTableFault (Some files) schema defs before now role = TableFault files schema defs before now role

-- how the reading of the tables may end but with them
abbrev pub HasTablesCause : Option FileMap → List ℕ → List TableDef → ℕ → ℕ → Status → Type 0
HasTablesCause holds schema defs before now (ReadFault role) = IsNumbered defs role × HasTableFault holds schema defs before now role
HasTablesCause holds schema defs before now WriteFault = ⊥
HasTablesCause holds schema defs before now Done = ⊥
HasTablesCause holds schema defs before now (Usage kind) = ⊥
HasTablesCause holds schema defs before now Overflow = ⊥
HasTablesCause holds schema defs before now _ = Unit {0}
