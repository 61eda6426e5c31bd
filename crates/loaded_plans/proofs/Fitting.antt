-- The numbers of loaded tables lie in the intervals of their definitions' columns.
use Rattle.std.proofs.Common.{◌≡◌, ℕ, zero, suc, true, ℤ, List, [], ◌∷◌, map, Some, refl, subst}
use Rattle.std.specs.Prelude.{All, slice_get, slice_index_or}
use Rattle.sql_read.specs.declared.definition.ColumnDef.{ColumnDef}
use Rattle.sql_read.specs.declared.definition.ColumnKind.{ColumnKind}
use Rattle.sql_read.specs.declared.definition.ColumnKind.TheVariants as kind
use Rattle.sql_read.specs.declared.definition.TableDef.{TableDef}
use Rattle.sql_values.specs.Values.{Value, number, text, truth, null}
use Rattle.table_load.specs.ColumnTypes.{FitsKind, FitsColumn, FitsColumns, ColumnsFit}
use Rattle.table_load.specs.Values.{Table, value_at}
use Rattle.typed_values.specs.Intervals.{of_column, of_type}
use Rattle.value_bounds.specs.Laws.{holds}
use Rattle.query_types.specs.Names.{columns_of, type_of_column}
use Rattle.loaded_plans.specs.Laws.{AreLoaded, LoadedFit}

number_held : (k : ColumnKind) (width : ℕ) (z : ℤ) → FitsKind k width (number z) → holds (of_column k width) (number z) ≡ true
number_held kind.Integer width z h = h
number_held kind.Decimal width z h = h
number_held kind.Date width z h = h
number_held kind.Text width z h = absurd h

value_held : (def : TableDef) (c : ColumnDef) (v : Value) → FitsColumn def c v → holds (of_type (type_of_column c)) v ≡ true
value_held def c (number z) h = number_held c.kind c.width z h
value_held def c (text t) h = refl
value_held def c (truth b) h = refl
value_held def c null h = refl

-- a row's value in a column's place
row_held : (def : TableDef) (cs : List ColumnDef) (row : List Value) (k : ℕ) (c : ColumnDef) → slice_get cs k ≡ Some c → FitsColumns def cs row → holds (of_type (type_of_column c)) (value_at k row) ≡ true
row_held def [] row k c at h = absurd cc
row_held def (d ∷ ds) [] k c at h = absurd h
row_held def (d ∷ ds) (v ∷ vs) zero c at h =
    let same : d ≡ c = cc in
    subst (λ (x : ColumnDef). holds (of_type (type_of_column x)) v ≡ true) same (value_held def d v h.0)
row_held def (d ∷ ds) (v ∷ vs) (suc k) c at h = row_held def ds vs k c at h.1

abbrev AreHeld : List Table → ℕ → ℕ → ColumnDef → Type 0
AreHeld tables table k c = All (λ r. holds (of_type (type_of_column c)) (value_at k r) ≡ true) (slice_index_or (map (λ t. t.rows) tables) table [])

tables_held : ColumnsFit → (defs : List TableDef) (tables : List Table) → AreLoaded defs tables → (table k : ℕ) (c : ColumnDef) → slice_get (columns_of defs table) k ≡ Some c → AreHeld tables table k c
tables_held fit [] tables h table k c at = absurd cc
tables_held fit (def ∷ defs) [] h table k c at = absurd h
tables_held fit (def ∷ defs) (t ∷ ts) h zero k c at =
    let rows = fit def h.0.bytes t h.0.read in
    λ i d l. row_held def def.columns _ k c at (rows i d l)
tables_held fit (def ∷ defs) (t ∷ ts) h (suc table) k c at = tables_held fit defs ts h.1 table k c at

pub loaded_fit : ColumnsFit → LoadedFit
loaded_fit fit = tables_held fit
