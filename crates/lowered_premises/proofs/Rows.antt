-- The conditions, arguments, items and keys of a plan stand on the rows of its table.
use Rattle.std.proofs.Common.{◌≡◌, ℕ, ◌≤◌, ◌^◌, true, List, length, map, get_or, Option, Some, None, is_some, refl, sym, subst}
use Rattle.std.specs.Prelude.{All}
use Rattle.std.specs.List.{Contains}
use Rattle.std.proofs.lemmas.Bool.{false≢true}
use Rattle.std.proofs.lemmas.List.Elements.{All-map, Contains-get_or}
use Rattle.sql_read.specs.declared.definition.TableDef.{TableDef}
use Rattle.sql_values.specs.Values.{Value, null}
use Rattle.table_load.specs.Databases.{coded}
use Rattle.table_load.specs.ColumnTypes.{ColumnsFit}
use Rattle.table_load.specs.Values.{Table, value_at}
use Rattle.typed_trees.specs.declared.typed.ColumnRef.{ColumnRef}
use Rattle.typed_trees.specs.declared.typed.ColumnType.{ColumnType}
use Rattle.typed_trees.specs.declared.typed.KeyRef.{KeyRef}
use Rattle.typed_trees.specs.declared.typed.KeyRef.TheVariants.{Item, Column}
use Rattle.typed_trees.specs.declared.typed.PlanSource.{PlanSource}
use Rattle.typed_trees.specs.declared.typed.TypedExpr.{TypedExpr}
use Rattle.typed_trees.specs.Kinds.{kind_of}
use Rattle.typed_trees.specs.Types.{DataType, no_aggregate, types_of}
use Rattle.query_answers.specs.Answers.{FromRow, Row, column_value, on_row}
use Rattle.typing_laws.specs.Laws.{AreDeclared, IsColumn, IsKey, column_at}
use Rattle.expr_values.specs.Laws.{CanStand, is_known}
use Rattle.value_laws.specs.Laws.{is_of}
use Rattle.rel_plan.specs.declared.plans.RelPlan.{RelPlan}
use Rattle.plan_laws.specs.WellFormed.{places}
use Rattle.lowered_stages.specs.Parts.{AreAlike, CanValueAll, fits_slot, key_alike, on_table}
use Rattle.lowered_stages.specs.Plans.{CanLower}
use Rattle.lowered_premises.specs.Sources.{OverTable, texts_of, alone, IsRowOf}
use Rattle.lowered_premises.specs.Laws.{TableLaw, RowsLaw, StandOnRows}
use Rattle.lowered_premises.proofs.Sources.{in_place}
use Rattle.lowered_premises.proofs.Standing.{SizedLaw, fitting_column, stands, few, typed_value, known_value, typed_column, known_column}

pub has_type : (defs : List TableDef) (tables : List ℕ) (c : ColumnRef) → IsColumn defs tables c → (type : ColumnType) × (column_at defs tables c ≡ Some type)
has_type defs tables c h = by (column_at defs tables c) refl h
  where
    by : (o : Option ColumnType) → column_at defs tables c ≡ o → is_some o ≡ true → (type : ColumnType) × (column_at defs tables c ≡ Some type)
    by None e h = absurd (false≢true h)
    by (Some type) e h = (type, e)

module _ (fit : ColumnsFit) (sized : SizedLaw) (defs : List TableDef) (ts : List Table) (p : RelPlan) (s : PlanSource) (def : TableDef) (t : Table) (h : CanLower defs ts p) (o : OverTable defs ts p s def t) where
  pub on_a_row : (at : ℕ → Option DataType) (e : TypedExpr) → AreDeclared defs (places p) e → (row : FromRow) → IsRowOf t row → CanStand (texts_of defs ts) at (on_row row) e
  on_a_row at e declared row is =
      let stood = stands (texts_of defs ts) defs (places p) at (column_value (alone is.0)) (λ n. null) e (few fit defs ts p s def t h o) declared
      (typed_column fit defs ts p s def t h o is.0 is.1) (λ n u g. refl) (known_column fit defs ts p s def t h o is.0 is.1) (λ n m. refl) in
      subst (λ (x : FromRow). CanStand (texts_of defs ts) at (on_row x) e) (sym is.2) stood

  -- a column of a from-row
  pub row_typed : (c : ColumnRef) (type : ColumnType) → column_at defs (places p) c ≡ Some type → (row : FromRow) → IsRowOf t row → is_of (kind_of type.kind) (column_value row c) ≡ true
  row_typed c type e row is = subst (λ (x : FromRow). is_of (kind_of type.kind) (column_value x c) ≡ true) (sym is.2) (typed_column fit defs ts p s def t h o is.0 is.1 c type e)

  pub row_known : (c : ColumnRef) (row : FromRow) → IsRowOf t row → is_known (texts_of defs ts) (column_value row c) ≡ true
  row_known c row is = subst (λ (x : FromRow). is_known (texts_of defs ts) (column_value x c) ≡ true) (sym is.2) (known_column fit defs ts p s def t h o is.0 is.1 c)

  row_fit : (c : ColumnRef) (type : ColumnType) → column_at defs (places p) c ≡ Some type → (row : FromRow) → IsRowOf t row → fits_slot (coded (texts_of defs ts) (column_value row c)) ≡ true
  row_fit c type e row is = subst (λ (x : FromRow). fits_slot (coded (texts_of defs ts) (column_value x c)) ≡ true) (sym is.2) (fitting_column fit defs ts p s def t h o is.0 is.1 sized c type e)

  on_a_table_row : (e : TypedExpr) → AreDeclared defs (places p) e → (r : Row) → Contains t.rows r → CanStand (texts_of defs ts) no_aggregate (on_table r) e
  on_a_table_row e declared r row =
      stands (texts_of defs ts) defs (places p) no_aggregate (λ c. value_at c.column r) (λ n. null) e (few fit defs ts p s def t h o) declared
      (typed_value fit defs ts p s def t h o r row) (λ n u g. refl) (λ c. known_value fit defs ts p s def t h o r row c.column) (λ n m. refl)

  pub table_stands : All (CanValueAll (texts_of defs ts) no_aggregate on_table t.rows) s.filter
  table_stands =
      let declared = (in_place defs ts p s def t o h).declared in
      λ k d l. λ i r m. on_a_table_row (get_or s.filter k d) (declared k d l) (get_or t.rows i r) (Contains-get_or t.rows i r m)

  module _ (rows : List FromRow) (are : All (IsRowOf t) rows) (most : length rows ≤ 2 ^ 20) where
    stood : (at : ℕ → Option DataType) (e : TypedExpr) → AreDeclared defs (places p) e → CanValueAll (texts_of defs ts) at on_row rows e
    stood at e declared = λ i r m. on_a_row at e declared (get_or rows i r) (are i r m)

    -- a column's values
    pub alike : (c : ColumnRef) → IsColumn defs (places p) c → AreAlike (texts_of defs ts) (map (λ r. (on_row r).column c) rows)
    alike c is =
        let type = has_type defs (places p) c is in
        record {
          kind = kind_of type.0.kind;
          each_is = All-map (λ (v : Value). is_of (kind_of type.0.kind) v ≡ true) (λ (r : FromRow). column_value r c) rows (λ i r m. row_typed c type.0 type.1 (get_or rows i r) (are i r m));
          known = All-map (λ (v : Value). is_known (texts_of defs ts) v ≡ true) (λ (r : FromRow). column_value r c) rows (λ i r m. row_known c (get_or rows i r) (are i r m));
        }

    fitting : (c : ColumnRef) → IsColumn defs (places p) c → All (λ r. fits_slot (coded (texts_of defs ts) ((on_row r).column c)) ≡ true) rows
    fitting c is = λ i r m. row_fit c (has_type defs (places p) c is).0 (has_type defs (places p) c is).1 (get_or rows i r) (are i r m)

    key_is_alike : (k : KeyRef) → IsKey defs (places p) (length p.items) k → key_alike (texts_of defs ts) on_row rows k
    key_is_alike (Item n) is = tt
    key_is_alike (Column c) is = alike c is

    pub rows_stand : StandOnRows defs ts p rows
    rows_stand =
        let names = h.well_formed.names in
        record {
          filter = λ k d l. stood no_aggregate (get_or p.filter k d) (names.filter k d l);
          grouping = record {
            columns_alike = λ k d l. alike (get_or p.groups k d) (names.groups k d l);
            columns_fit = λ k d l. fitting (get_or p.groups k d) (names.groups k d l);
            few = most;
            arguments = λ k d l. λ e is. stood no_aggregate e (names.aggregates k d l e is);
          };
          items = λ plain. λ k d l. stood (types_of p.aggregates) (get_or p.items k d) (names.items k d l);
          keys = λ k d l. key_is_alike (get_or p.order k d).key (names.order k d l);
        }

pub table_law : ColumnsFit → SizedLaw → TableLaw
table_law fit sized defs ts p s def t h o = table_stands fit sized defs ts p s def t h o

pub rows_law : ColumnsFit → SizedLaw → RowsLaw
rows_law fit sized defs ts p s def t rows h o are most = rows_stand fit sized defs ts p s def t h o rows are most
