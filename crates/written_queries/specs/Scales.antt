-- The scales of a catalog's columns: how many digits of a number stand after its point.
-- After SQL-92 (ISO/IEC 9075:1992), 6.1 <data type>, with this project's limits.
use Rattle.std.specs.Prelude.{◌≡◌, ℕ, ◌≤◌, List, [], All, Ok}
use Rattle.sql_read.specs.declared.definition.ColumnKind.{ColumnKind}
use Rattle.sql_read.specs.declared.definition.ColumnKind.TheVariants.{Decimal}
use Rattle.sql_read.specs.declared.definition.TableDef.{TableDef}
use Rattle.sql_read.specs.Lexis.{Bytes, max_scale}
use Rattle.sql_read.specs.SchemaText.{schema_of}
use Rattle.sql_types.specs.Catalog.{findings}

-- at most 18 digits of a decimal stand after its point, and none of what is no decimal
abbrev pub IsScaledAs : ColumnKind → ℕ → Type 0
IsScaledAs Decimal scale = scale ≤ max_scale
IsScaledAs kind scale = scale ≡ 0

-- so it is in every column
abbrev pub HasScales : List TableDef → Type 0
HasScales defs = All (λ t. All (λ c. IsScaledAs c.kind c.scale) t.columns) defs

-- so it is in every schema that is read and has nothing wrong with it
abbrev pub ScalesLaw : Type 0
ScalesLaw = (text : Bytes) (defs : List TableDef) → schema_of text ≡ Ok defs → findings defs ≡ [] → HasScales defs
