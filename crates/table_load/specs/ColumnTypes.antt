-- What the rows of a table hold: in each column a value of its type, and a null only where the column may hold nulls.
-- After SQL-92 (ISO/IEC 9075:1992), 4.1 "Data types" and 4.10.2 "Table constraints".
use Rattle.std.specs.Prelude.{◌≡◌, ℕ, ◌-◌, ◌≤◌, ◌^◌, true, List, [], ◌∷◌, length, Ok, pos, negsuc, neg_ℤ, ⊤}
use Rattle.std.specs.List.{All}
use Rattle.number_fields.specs.Ranges.{lies_between}
use Rattle.sql_read.specs.declared.definition.ColumnDef.{ColumnDef}
use Rattle.sql_read.specs.declared.definition.ColumnKind.{ColumnKind}
use Rattle.sql_read.specs.declared.definition.ColumnKind.TheVariants as kind
use Rattle.sql_read.specs.declared.definition.TableDef.{TableDef}
use Rattle.sql_types.specs.Catalog.{may_be_null}
use Rattle.sql_values.specs.Values.{Value, number, text, null}
use Rattle.table_load.specs.Tables.{table_of}
use Rattle.table_load.specs.Values.{Table}

-- numbers of 64 bits, of the days from 0001-01-01 to 9999-12-31, of a decimal's digits; texts of so many bytes
abbrev pub FitsKind : ColumnKind → ℕ → Value → Type 0
FitsKind kind.Integer width (number z) = lies_between (negsuc 9_223_372_036_854_775_807) (pos 9_223_372_036_854_775_807) z ≡ true
FitsKind kind.Date width (number z) = lies_between (negsuc 719_161) (pos 2_932_896) z ≡ true
FitsKind kind.Decimal width (number z) = lies_between (neg_ℤ (pos (10 ^ width - 1))) (pos (10 ^ width - 1)) z ≡ true
FitsKind kind.Text width (text t) = length t ≤ width
FitsKind kind width v = ⊥

-- a value that a column of a table may hold
abbrev pub FitsColumn : TableDef → ColumnDef → Value → Type 0
FitsColumn t c null = may_be_null t c ≡ true
FitsColumn t c v = FitsKind c.kind c.width v

-- a value for each column, one that it may hold
abbrev pub FitsColumns : TableDef → List ColumnDef → List Value → Type 0
FitsColumns t [] [] = ⊤
FitsColumns t (c ∷ cs) (v ∷ vs) = FitsColumn t c v × FitsColumns t cs vs
FitsColumns t cs vs = ⊥

-- every row of a table has such values
abbrev pub ColumnsFit : Type 0
ColumnsFit = (t : TableDef) (bytes : List ℕ) (table : Table) → table_of t bytes ≡ Ok table → All (FitsColumns t t.columns) table.rows
