-- The database that is made of tables is that of what was read.
use Rattle.std.proofs.Common.{◌≡◌, ℕ, List, [], inl, inr, refl}
use Rattle.std.specs.Prelude.{All, Option, Some, None, Ok, IfSome}
use Rattle.io_edge.specs.Shelves.{FileMap}
use Rattle.sql_read.specs.declared.definition.TableDef.{TableDef}
use Rattle.sql_read.specs.Forms.{IsFormed}
use Rattle.sql_types.specs.Catalog.{findings}
use Rattle.table_load.specs.Databases.{database_of}
use Rattle.table_load.specs.Values.{Table}
use Rattle.loaded_plans.specs.Laws.{AreLoaded}
use Rattle.run_steps.specs.declared.status.Status.{Status}
use Rattle.run_steps.specs.Loaded.{AreShort, IsReadSchema}
use Rattle.run_steps.specs.Steps.{catalog_in, tables_from, tables_in}
use Rattle.voodoo_cmd.specs.Reads.{IsRead, Stops}

both_read : (holds : Option FileMap) (schema : List ℕ) (defs : List TableDef) (ts : List Table) → IfSome holds (λ files. catalog_in files schema ≡ Ok defs) → IfSome holds (λ files. tables_from files schema 1 defs ≡ Ok ts)
    → IfSome holds (λ files. tables_in files schema ≡ Ok (record { defs = defs; tables = ts }))
both_read None schema defs ts catalog tables = tt
both_read (Some files) schema defs ts catalog tables = rw (catalog, tables) refl

pub is_read : (holds : Option FileMap) (schema : List ℕ) (defs : List TableDef) (ts : List Table) → findings defs ≡ [] → All IsFormed defs → IsReadSchema defs → AreLoaded defs ts → AreShort ts
    → IfSome holds (λ files. catalog_in files schema ≡ Ok defs) → IfSome holds (λ files. tables_from files schema 1 defs ≡ Ok ts) → IsRead holds schema (database_of defs ts)
unfolding database_of
is_read holds schema defs ts clean formed read loaded short catalog tables = record {
  tables = ts;
  are = record { database = refl; loaded = loaded; short = short; clean = clean; formed = formed; schema = read };
  read = both_read holds schema defs ts catalog tables;
}

-- the tables of a catalog that is read stop the reading of both
pub tables_stop : (holds : Option FileMap) (schema : List ℕ) (defs : List TableDef) (status : Status) → IfSome holds (λ files. catalog_in files schema ≡ Ok defs) → IfSome holds (λ files. Stops status (tables_from files schema 1 defs))
    → IfSome holds (λ files. Stops status (tables_in files schema))
tables_stop None schema defs status catalog tables = tt
tables_stop (Some files) schema defs status catalog (inl e) = inl (rw (catalog, e) refl)
tables_stop (Some files) schema defs status catalog (inr e) = inr e
