use Rattle.std.proofs.Common.{◌≡◌, ◌≤◌, ◌^◌, [], length}
use Rattle.std.specs.HashMap.{get}
use Rattle.std.specs.Ordering.{int_eq}
use Rattle.table_load.specs.Databases.{rows_texts}
use Rattle.table_load.specs.HeldColumns.{AreColumns, noted, rows_held, text_columns}
use Rattle.table_load.specs.Tables.{rows_after}
use Rattle.table_load.proofs.KeyLaws.{KeysPlaced}
use Rattle.table_load.proofs.loading.load_rows.Given as goal

abbrev pub invariant-rows : goal.invariant-rows
invariant-rows l = record {
  same : rows_after l.def [] l.fn.records ≡ rows_after l.def (rows_held l.texts (text_columns l.def.columns) l.columns.items l.count) l.records;
  whole : AreColumns (length l.texts) l.count (text_columns l.def.columns) l.columns.items;
  texts_are : l.texts ≡ noted [] (rows_texts (rows_held l.texts (text_columns l.def.columns) l.columns.items l.count));
  keys : KeysPlaced l.key l.columns.items (λ q. get int_eq l.places q);
  few : l.count ≤ 2 ^ 20;
}

abbrev pub decreases-rows : goal.decreases-rows
decreases-rows l = length l.records
