use Rattle.std.proofs.Common.{subst, sym}
use Rattle.struct_vectors.specs.Stores.{HaveDistinctNames}
use Rattle.table_load.proofs.StoreFacts.{distinct_store}
use Rattle.table_load.proofs.ColumnNames.{has_columns}
use Rattle.table_load.proofs.vectors.store_of_tables.Goals as goal

pub new-requires : goal.new-requires
new-requires c = subst HaveDistinctNames (sym c.in_ok-vectors.ensures) (distinct_store c.args.dictionary.now c.args.defs.now c.args.tables.items c.requires.clean c.requires.loaded)

pub vectors_of_tables-requires-clause-columns : goal.vectors_of_tables-requires-clause-columns
vectors_of_tables-requires-clause-columns c = has_columns c.args.defs.now c.requires.clean c.requires.formed
