use Rattle.std.proofs.Common.{◌≡◌, ◌++◌, drop}
use Rattle.std.specs.Vec.Iter.{into_iter_items}
use Rattle.table_load.specs.Databases.{store_of}
use Rattle.table_load.proofs.StoreFacts.{degrees, widths}
use Rattle.table_load.proofs.vectors.vectors_of_tables.Given as goal

abbrev pub invariant-loop-table : goal.invariant-loop-table
invariant-loop-table l = record {
  so_far : l.vectors.items ++ store_of l.dictionary (drop l.i l.defs) (into_iter_items l.table-iterator) ≡ store_of l.dictionary l.defs l.fn.tables.items;
  loaded : degrees (into_iter_items l.table-iterator) ≡ widths (drop l.i l.defs);
}
