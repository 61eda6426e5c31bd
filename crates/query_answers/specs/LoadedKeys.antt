-- The key of a loaded table is one: no two of its rows have an equal value in the key's column (SQL-92, 4.10.2 "Table constraints"), as a key join asks.
use Rattle.std.specs.Prelude.{◌≡◌, ℕ, List, [], Some, Ok}
use Rattle.sql_read.specs.declared.definition.TableDef.{TableDef}
use Rattle.sql_values.specs.Values.{Value}
use Rattle.table_load.specs.Tables.{key_place, rows_after}
use Rattle.query_answers.specs.Laws.{IsKey}

abbrev pub LoadedKey : Type 0
LoadedKey = (t : TableDef) (records : List (List (List ℕ))) (rows : List (List Value)) (key : ℕ) → rows_after t [] records ≡ Ok rows → key_place t ≡ Some key → IsKey key rows
