-- Why the reading of the schema and its tables may end with a read fault, from why that of the tables may.
use Rattle.std.proofs.Common.{◌≡◌, ℕ, ◌+◌, ◌-◌, ◌≤◌, List, [], length, inl, inr, arith}
use Rattle.std.specs.Prelude.{Option, Some, None, Ok, IfSome, IsOkAnd, ◌⊎◌}
use Rattle.io_edge.specs.Faults.{Rose}
use Rattle.io_edge.specs.Shelves.{FileMap}
use Rattle.sql_read.specs.declared.definition.TableDef.{TableDef}
use Rattle.sql_types.specs.Catalog.{findings}
use Rattle.run_steps.specs.declared.status.FileRole.{FileRole}
use Rattle.run_steps.specs.declared.status.FileRole.TheVariants.{Schema, Table, Text}
use Rattle.run_steps.specs.declared.status.Status.{Status}
use Rattle.run_steps.specs.declared.status.Status.TheVariants.{Done, Usage, ReadFault, WriteFault, SchemaRefused, DataRefused, QueryRefused, AlgebraRefused, LimitReached, Overflow, NotYet, NoMemory}
use Rattle.run_steps.specs.Expected.{schema_file_read}
use Rattle.voodoo_cmd.specs.RunEffects.{IsSchemaRole, SchemaFaultHasCause}
use Rattle.run_steps.specs.TableFaults.{IsNumbered, TableFault, HasTableFault, HasTablesCause}
use Rattle.run_steps.specs.Steps.{catalog_in}
use Rattle.table_load.proofs.Limits.{few_tables}
use Rattle.run_steps.proofs.TablesLaws.{rose_earlier}

role_of_number : (defs : List TableDef) (role : FileRole) → length defs ≤ 16 → IsNumbered defs role → IsSchemaRole role
role_of_number defs Schema few h = absurd h
role_of_number defs Text few h = absurd h
role_of_number defs (Table k) few h = (h.0, omega (arith, h.1, few))

read_here : (files : FileMap) (schema : List ℕ) (defs : List TableDef) (before now : ℕ) (role : FileRole) (f : TableFault files schema defs before now role) → catalog_in files schema ≡ Ok defs
    → IsOkAnd (schema_file_read files schema role) (λ name. Rose before now ⊎ (files name ≡ None))
read_here files schema defs before now role f catalog =
    let place : f.place + 1 - 1 ≡ f.place = omega arith in
    rw (f.role_is, catalog, place, f.earlier_are, f.def_is) f.cause

sooner : (before middle now : ℕ) (P : Type 0) → before ≤ middle → Rose middle now ⊎ P → Rose before now ⊎ P
sooner before middle now P h (inl r) = inl (rose_earlier before middle now h r)
sooner before middle now P h (inr p) = inr p

fault_sooner : (files : FileMap) (schema : List ℕ) (defs : List TableDef) (before middle now : ℕ) (role : FileRole) → before ≤ middle → TableFault files schema defs middle now role → TableFault files schema defs before now role
fault_sooner files schema defs before middle now role h f = record {
  place = f.place;
  role_is = f.role_is;
  def = f.def;
  def_is = f.def_is;
  earlier = f.earlier;
  earlier_are = f.earlier_are;
  cause = sooner before middle now _ h f.cause;
}

fault : (holds : Option FileMap) (schema : List ℕ) (defs : List TableDef) (before middle now : ℕ) (role : FileRole) → before ≤ middle → length defs ≤ 16 → IfSome holds (λ files. catalog_in files schema ≡ Ok defs)
    → IsNumbered defs role → HasTableFault holds schema defs middle now role → SchemaFaultHasCause holds schema before now (ReadFault role)
fault None schema defs before middle now role later few catalog number h = (role_of_number defs role few number, rose_earlier before middle now later h)
fault (Some files) schema defs before middle now role later few catalog number h =
    record { role_is = role_of_number defs role few number; cause = read_here files schema defs before now role (fault_sooner files schema defs before middle now role later h) catalog }

pub schema_fault : (holds : Option FileMap) (schema : List ℕ) (defs : List TableDef) (before middle now : ℕ) (status : Status) → before ≤ middle → findings defs ≡ [] → IfSome holds (λ files. catalog_in files schema ≡ Ok defs)
    → HasTablesCause holds schema defs middle now status → SchemaFaultHasCause holds schema before now status
schema_fault holds schema defs before middle now Done later clean catalog h = absurd h
schema_fault holds schema defs before middle now (Usage kind) later clean catalog h = absurd h
schema_fault holds schema defs before middle now WriteFault later clean catalog h = absurd h
schema_fault holds schema defs before middle now Overflow later clean catalog h = absurd h
schema_fault holds schema defs before middle now NoMemory later clean catalog h = tt
schema_fault holds schema defs before middle now (SchemaRefused place kind) later clean catalog h = tt
schema_fault holds schema defs before middle now (QueryRefused place kind) later clean catalog h = tt
schema_fault holds schema defs before middle now (AlgebraRefused line kind) later clean catalog h = tt
schema_fault holds schema defs before middle now (DataRefused table at_record at_column kind) later clean catalog h = tt
schema_fault holds schema defs before middle now (LimitReached what number) later clean catalog h = tt
schema_fault holds schema defs before middle now (NotYet role) later clean catalog h = tt
schema_fault holds schema defs before middle now (ReadFault role) later clean catalog h = fault holds schema defs before middle now role later (few_tables defs clean) catalog h.0 h.1
