use Rattle.std.proofs.Common.{◌≡◌, ◌≤◌, ◌*◌, ◌^◌, [], length, take, flat_map}
use Rattle.table_load.specs.Databases.{rows_texts}
use Rattle.table_load.specs.HeldColumns.{noted}
use Rattle.table_load.proofs.dictionaries.dictionary_of_tables.Given as goal

abbrev pub invariant-loop-table : goal.invariant-loop-table
invariant-loop-table l = record {
  texts_are : l.texts.items ≡ flat_map (λ t. noted [] (rows_texts t.rows)) (take l.table-index l.tables);
  few : length l.texts.items ≤ 2 ^ 26 * l.table-index;
}
