use Rattle.std.proofs.Common.{◌≡◌, refl}
use Rattle.std.specs.Prelude.{IfSome, Ok}
use Rattle.table_load.specs.Databases as databases
use Rattle.run_steps.specs.Steps.{catalog_in}
use Rattle.voodoo_cmd.proofs.Reading.{is_read, tables_stop}
use Rattle.voodoo_cmd.proofs.SchemaFaults.{schema_fault}
use Rattle.voodoo_cmd.proofs.top.read_database.Goals as goal

pub returns-in_ok-database-in-Ok-clause-defs : goal.returns-in_ok-database-in-Ok-clause-defs
unfolding databases.database_of
returns-in_ok-database-in-Ok-clause-defs g c = rw (c.in_ok-database-in-Ok.ensures, c.defs-in-Ok.ensures.value) refl

pub returns-in_ok-database-in-Ok-clause-tables : goal.returns-in_ok-database-in-Ok-clause-tables
returns-in_ok-database-in-Ok-clause-tables g c =
    let defs = c.defs.ensures.value in
    rw (c.in_ok-database-in-Ok.ensures, c.defs-in-Ok.ensures.value)
    (is_read (g.S.Shelf.holds c.args.shelf.now) c.args.schema.now _ _ c.in_ok-catalog.ensures.clean c.in_ok-catalog.ensures.formed c.in_ok-catalog.ensures.read (rw defs at c.in-Ok.ensures.loaded) c.in-Ok.ensures.short
    c.in_ok-catalog.ensures.catalog (rw (c.read_catalog.ensures.same_files, defs) at c.in-Ok.ensures.tables))

pub returns-in-Err-clause-stops : goal.returns-in-Err-clause-stops
returns-in-Err-clause-stops g c =
    tables_stop (g.S.Shelf.holds c.args.shelf.now) c.args.schema.now _ _ c.in_ok-catalog.ensures.catalog (rw (c.read_catalog.ensures.same_files, c.defs.ensures.value) at c.in-Err.ensures.tables)

pub returns-in-Err-clause-cause : goal.returns-in-Err-clause-cause
returns-in-Err-clause-cause g c =
    let catalog : IfSome (g.S.Shelf.holds c.args.shelf.now) (λ files. catalog_in files c.args.schema.now ≡ Ok c.defs.result.now) = rw c.defs.ensures.value c.in_ok-catalog.ensures.catalog in
    schema_fault (g.S.Shelf.holds c.args.shelf.now) c.args.schema.now c.defs.result.now _ _ _ c.in-Err.status c.read_catalog.ensures.later (rw c.defs.ensures.value c.in_ok-catalog.ensures.clean) catalog
    (rw c.read_catalog.ensures.same_files at c.in-Err.ensures.cause)
