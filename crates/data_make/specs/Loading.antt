-- What the generated job is loaded as: the definition that its schema says, and the table of its rows.
use Rattle.std.specs.Prelude.{◌≡◌, ℕ, ◌≤◌, ◌^◌, pos, true, List, [], ◌∷◌, map, codes, Ok}
use Rattle.std.specs.List.{range_with_len}
use Rattle.sql_read.specs.declared.definition.ColumnKind.TheVariants.{Integer, Date, Text}
use Rattle.sql_read.specs.declared.definition.TableDef.{TableDef}
use Rattle.sql_read.specs.SchemaText.{schema_of}
use Rattle.sql_types.specs.Catalog.{findings}
use Rattle.sql_values.specs.Values.{Value, number, text}
use Rattle.table_load.specs.Tables.{table_of}
use Rattle.table_load.specs.Values.{Table}
use Rattle.data_make.specs.Job.{amount, drawn, kind_name, made_schema, made_table, shipped_day}

-- each part at its byte
abbrev pub made_def : TableDef
made_def = record {
  name = codes "made";
  at = 13;
  columns =
      record { name = codes "id"; at = 19; kind = Integer; width = 0; width_at = 22; scale = 0; scale_at = 22; not_null = true }
      ∷ record { name = codes "kind"; at = 52; kind = Text; width = 5; width_at = 65; scale = 0; scale_at = 57; not_null = true }
      ∷ record { name = codes "shipped"; at = 78; kind = Date; width = 0; width_at = 86; scale = 0; scale_at = 86; not_null = true }
      ∷ record { name = codes "amount"; at = 101; kind = Integer; width = 0; width_at = 108; scale = 0; scale_at = 108; not_null = true }
      ∷ [];
  keys = record { column = codes "id"; at = 39; name_at = 19 } ∷ [];
}

-- the schema is read as that definition, and nothing is wrong with it
abbrev pub SchemaIsRead : Type 0
SchemaIsRead = schema_of made_schema ≡ Ok (made_def ∷ [])

abbrev pub SchemaIsACatalog : Type 0
SchemaIsACatalog = findings (made_def ∷ []) ≡ []

-- the values of row i
abbrev pub made_values : ℕ → ℕ → List Value
made_values seed i = number (pos i) ∷ text (kind_name (drawn seed i 1)) ∷ number (shipped_day (drawn seed i 2)) ∷ number (amount (drawn seed i 3)) ∷ []

abbrev pub made_rows : ℕ → ℕ → Table
made_rows seed rows = record { degree = 4; rows = map (made_values seed) (range_with_len 1 rows) }

-- every table of at most 2^20 rows is loaded as its rows: none is refused
abbrev pub TablesLoad : Type 0
TablesLoad = (seed rows : ℕ) → rows ≤ 2 ^ 20 → table_of made_def (made_table seed rows) ≡ Ok (made_rows seed rows)
