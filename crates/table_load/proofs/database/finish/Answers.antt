use Rattle.std.proofs.Common.{refl}
use Rattle.table_load.specs.Databases.{database_of}
use Rattle.table_load.proofs.TextCounts.{loaded_few, loaded_narrow}
use Rattle.table_load.proofs.database.finish.Goals as goal

pub returns : goal.returns
unfolding database_of
returns c = rw (c.in_ok-store.ensures, c.in_ok-defs.ensures, c.in_ok-dictionary.ensures, c.as_slice.ensures.value) refl

pub dictionary_of_tables-requires-clause-few : goal.dictionary_of_tables-requires-clause-few
dictionary_of_tables-requires-clause-few c = rw c.as_slice.ensures.value (loaded_few c.args.defs.now c.args.tables.items c.requires.clean c.requires.loaded)

pub dictionary_of_tables-requires-clause-narrow : goal.dictionary_of_tables-requires-clause-narrow
dictionary_of_tables-requires-clause-narrow c = rw c.as_slice.ensures.value (loaded_narrow c.args.defs.now c.args.tables.items c.requires.clean c.requires.loaded)
