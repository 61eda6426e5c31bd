-- Typed expressions stand on the rows of a plan's table: its columns hold values of their types, and texts of the dictionary.
use Rattle.std.proofs.Common.{◌≡◌, ◌∙◌, ℕ, zero, suc, ◌<◌, ◌^◌, true, List, [], length, get_or, Option, Some, Ok, sym, ap, subst, arith}
use Rattle.std.specs.Prelude.{All, slice_get}
use Rattle.std.specs.List.{Contains}
use Rattle.std.proofs.lemmas.List.{get_or_past}
use Rattle.std.proofs.lemmas.List.Elements.{All-contains}
use Rattle.std.proofs.lemmas.List.Sums.{list_all-from_AllPass}
use Rattle.std.proofs.lemmas.Option.{get_or_from_slice_get, slice_get_within}
use Rattle.sql_read.specs.declared.definition.ColumnDef.{ColumnDef}
use Rattle.sql_read.specs.declared.definition.TableDef.{TableDef}
use Rattle.sql_types.specs.Catalog.{findings}
use Rattle.sql_types.specs.Widths.{IsSized}
use Rattle.sql_values.specs.Values.{Value, null}
use Rattle.table_load.specs.ColumnTypes.{FitsColumns, ColumnsFit}
use Rattle.table_load.specs.Databases.{coded, database_of}
use Rattle.table_load.specs.Values.{Table, value_at}
use Rattle.typed_trees.specs.declared.typed.ColumnRef.{ColumnRef}
use Rattle.typed_trees.specs.declared.typed.ColumnType.{ColumnType}
use Rattle.typed_trees.specs.declared.typed.PlanSource.{PlanSource}
use Rattle.typed_trees.specs.declared.typed.TypedExpr.{TypedExpr}
use Rattle.typed_trees.specs.Columns.{columns_in}
use Rattle.typed_trees.specs.Kinds.{kind_of}
use Rattle.typed_trees.specs.Names.{names_aggregate}
use Rattle.typed_trees.specs.Types.{DataType}
use Rattle.value_laws.specs.Laws.{is_of}
use Rattle.query_answers.specs.Answers.{Row, column_value}
use Rattle.typing_laws.specs.Laws.{AreDeclared, column_at}
use Rattle.expr_values.specs.Laws.{CanStand, is_known}
use Rattle.rel_plan.specs.declared.plans.RelPlan.{RelPlan}
use Rattle.plan_laws.specs.WellFormed.{places}
use Rattle.lowered_stages.specs.Parts.{fits_slot}
use Rattle.lowered_stages.specs.Plans.{CanLower}
use Rattle.lowered_premises.specs.Sources.{OverTable, texts_of, alone}
use Rattle.lowered_premises.proofs.Dictionaries.{value_known}
use Rattle.lowered_premises.proofs.Fits.{row_fits}
use Rattle.lowered_premises.proofs.Loaded.{row_of, rows_fit, texts_few}
use Rattle.lowered_premises.proofs.Sources.{is_at}

-- values of columns of their types
abbrev pub HaveTypes : List TableDef → List ℕ → (ColumnRef → Value) → Type 0
HaveTypes defs tables column = (c : ColumnRef) (type : ColumnType) → column_at defs tables c ≡ Some type → is_of (kind_of type.kind) (column c) ≡ true

-- values of aggregates of their types
abbrev pub AreTyped : (ℕ → Option DataType) → (ℕ → Value) → Type 0
AreTyped at aggregate = (n : ℕ) (u : DataType) → at n ≡ Some u → is_of u.kind (aggregate n) ≡ true

pub stands :
    (texts : List (List ℕ)) (defs : List TableDef) (tables : List ℕ) (at : ℕ → Option DataType) (column : ColumnRef → Value) (aggregate : ℕ → Value) (e : TypedExpr)
    → length texts < 2 ^ 32 → AreDeclared defs tables e → HaveTypes defs tables column → AreTyped at aggregate → ((c : ColumnRef) → is_known texts (column c) ≡ true) → ((n : ℕ) → names_aggregate n e ≡ true → is_known texts (aggregate n) ≡ true)
    → CanStand texts at (record { column = column; aggregate = λ n. Ok (aggregate n) }) e
stands texts defs tables at column aggregate e few declared types typed known all_known = record {
  few = few;
  types = record {
    columns = list_all-from_AllPass (λ (c : ColumnRef × ColumnType). is_of (kind_of c.1.kind) (column c.0)) (columns_in e) (λ k d l. types (get_or (columns_in e) k d).0 (get_or (columns_in e) k d).1 (declared k d l));
    aggregates = typed;
  };
  columns = λ c h. known c;
  aggregates = all_known;
}

-- in a catalog each column has a width
abbrev pub SizedLaw : Type 0
SizedLaw = (defs : List TableDef) → findings defs ≡ [] → All (λ t. All IsSized t.columns) defs

-- ---- the rows of the table

nothing : (k : ℕ) → value_at k [] ≡ null
nothing k = get_or_past [] k null (omega arith)

no_row : (r : Row) (n : ℕ) → get_or (alone r) (suc n) [] ≡ []
no_row r n = get_or_past (alone r) (suc n) [] (omega arith)

module _ (fit : ColumnsFit) (defs : List TableDef) (ts : List Table) (p : RelPlan) (s : PlanSource) (def : TableDef) (t : Table) (h : CanLower defs ts p) (o : OverTable defs ts p s def t) where
  pub fits : All (FitsColumns def def.columns) t.rows
  fits = rows_fit fit defs ts s.table def t h.loaded o.defined o.stored

  pub few : length (texts_of defs ts) < 2 ^ 32
  few = texts_few fit defs ts h.loaded h.database

  pub stored : Contains ts t
  stored = (s.table, slice_get_within ts s.table t o.stored, get_or_from_slice_get ts s.table t t o.stored)

  sized_column : SizedLaw → (k : ℕ) (c : ColumnDef) → slice_get def.columns k ≡ Some c → IsSized c
  sized_column sized k c at =
      let all = sized defs h.database.clean s.table def (slice_get_within defs s.table def o.defined) in
      let here : All IsSized def.columns = subst (λ (d : TableDef). All IsSized d.columns) (get_or_from_slice_get defs s.table def def o.defined) all in
      subst IsSized (get_or_from_slice_get def.columns k c c at) (here k c (slice_get_within def.columns k c at))

  module _ (r : Row) (row : Contains t.rows r) where
    -- a value of a column of the table
    pub typed_value : (c : ColumnRef) (type : ColumnType) → column_at defs (places p) c ≡ Some type → is_of (kind_of type.kind) (value_at c.column r) ≡ true
    typed_value c type e =
        let at = is_at defs ts p s def t o c type e in
        subst (λ (x : ColumnType). is_of (kind_of x.kind) (value_at c.column r) ≡ true) at.3 (row_of def def.columns r c.column at.1 at.2 (All-contains (FitsColumns def def.columns) t.rows r fits row))

    pub known_value : (k : ℕ) → is_known (texts_of defs ts) (value_at k r) ≡ true
    unfolding database_of
    known_value k = value_known ts t r k stored row

    -- the same of the from-row
    pub typed_column : HaveTypes defs (places p) (column_value (alone r))
    typed_column c type e =
        let at = is_at defs ts p s def t o c type e in
        subst (λ (n : ℕ). is_of (kind_of type.kind) (value_at c.column (get_or (alone r) n [])) ≡ true) (sym at.0) (typed_value c type e)

    known_at : (n k : ℕ) → is_known (texts_of defs ts) (value_at k (get_or (alone r) n [])) ≡ true
    known_at zero k = known_value k
    known_at (suc n) k = ap (λ (v : Row). is_known (texts_of defs ts) (value_at k v)) (no_row r n) ∙ ap (is_known (texts_of defs ts)) (nothing k)

    pub known_column : (c : ColumnRef) → is_known (texts_of defs ts) (column_value (alone r) c) ≡ true
    known_column c = known_at c.source c.column

    pub fitting_column : SizedLaw → (c : ColumnRef) (type : ColumnType) → column_at defs (places p) c ≡ Some type → fits_slot (coded (texts_of defs ts) (column_value (alone r) c)) ≡ true
    fitting_column sized c type e =
        let at = is_at defs ts p s def t o c type e in
        let fitting = row_fits (texts_of defs ts) few def def.columns r c.column at.1 at.2 (sized_column sized c.column at.1 at.2) (All-contains (FitsColumns def def.columns) t.rows r fits row) in
        subst (λ (n : ℕ). fits_slot (coded (texts_of defs ts) (value_at c.column (get_or (alone r) n []))) ≡ true) (sym at.0) fitting
