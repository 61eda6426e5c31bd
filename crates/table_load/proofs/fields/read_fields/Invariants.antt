use Rattle.std.proofs.Common.{◌≡◌, ◌++◌, length, drop}
use Rattle.csv.specs.Records.{fields_of}
use Rattle.table_load.specs.Databases.{row_texts}
use Rattle.table_load.specs.HeldColumns.{AreCells, noted, text_columns, values_of}
use Rattle.table_load.specs.Values.{field_values}
use Rattle.table_load.proofs.RecordLaws.{oks}
use Rattle.table_load.proofs.fields.read_fields.Given as goal

abbrev pub invariant-columns : goal.invariant-columns
invariant-columns l = record {
  values : field_values l.def l.def.columns (fields_of l.row) ≡ oks (values_of l.texts (text_columns l.def.columns) l.cells.items) ++ field_values l.def (drop l.i l.def.columns) (drop l.i (fields_of l.row));
  cells : AreCells (length l.texts) (text_columns l.def.columns) l.cells.items;
  noted_are : l.texts ≡ noted l.fn.texts (row_texts (values_of l.texts (text_columns l.def.columns) l.cells.items));
  as_many : length l.cells.items ≡ l.i;
}
