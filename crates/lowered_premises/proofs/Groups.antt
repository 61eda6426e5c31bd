-- HAVING, items and keys of a plan stand on the groups of its rows.
use Rattle.std.proofs.Common.{◌≡◌, ℕ, true, List, length, map, get_or, Some, Ok, refl, subst}
use Rattle.std.specs.Prelude.{All, slice_get}
use Rattle.std.specs.List.{Contains}
use Rattle.std.proofs.lemmas.List.Elements.{All-contains, All-map}
use Rattle.std.proofs.lemmas.Option.{get_or_from_slice_get, slice_get_within}
use Rattle.sql_read.specs.declared.definition.TableDef.{TableDef}
use Rattle.sql_values.specs.Values.{Value, null}
use Rattle.table_load.specs.ColumnTypes.{ColumnsFit}
use Rattle.table_load.specs.Values.{Table}
use Rattle.typed_trees.specs.declared.typed.Aggregate.{Aggregate}
use Rattle.typed_trees.specs.declared.typed.ColumnRef.{ColumnRef}
use Rattle.typed_trees.specs.declared.typed.ColumnType.{ColumnType}
use Rattle.typed_trees.specs.declared.typed.KeyRef.{KeyRef}
use Rattle.typed_trees.specs.declared.typed.KeyRef.TheVariants.{Item, Column}
use Rattle.typed_trees.specs.declared.typed.PlanSource.{PlanSource}
use Rattle.typed_trees.specs.declared.typed.TypedExpr.{TypedExpr}
use Rattle.typed_trees.specs.Kinds.{kind_of}
use Rattle.typed_trees.specs.Types.{DataType, aggregate_type, no_aggregate, types_of}
use Rattle.typed_trees.proofs.Inversions.{chosen}
use Rattle.typed_values.specs.Aggregates.{aggregate_value}
use Rattle.typed_values.specs.Values.{On}
use Rattle.value_laws.specs.Laws.{is_of, KindLaw}
use Rattle.query_answers.specs.Answers.{FromRow, Group, column_value, group_value}
use Rattle.query_answers.specs.Overs.{each}
use Rattle.typing_laws.specs.Laws.{AreDeclared, IsColumn, IsKey, column_at}
use Rattle.expr_values.specs.Laws.{CanStand, IsLowerable, KnownLaw, is_known}
use Rattle.rel_plan.specs.declared.plans.RelPlan.{RelPlan}
use Rattle.plan_laws.specs.PlanAnswers.{clauses_of_plan}
use Rattle.plan_laws.specs.WellFormed.{places}
use Rattle.lowered_stages.specs.Parts.{AreAlike, CanValueAll, itself, key_alike}
use Rattle.lowered_stages.specs.Plans.{CanLower}
use Rattle.lowered_premises.specs.Sources.{OverTable, texts_of, IsRowOf, IsGroupOf}
use Rattle.lowered_premises.specs.Laws.{GroupsLaw, StandOnGroups}
use Rattle.lowered_premises.proofs.Aggregated.{Good}
use Rattle.lowered_premises.proofs.Columns.{all_optional}
use Rattle.lowered_premises.proofs.GroupValues.{IsGroup, IsKeyIn, aggregate_good, group_holds, group_is}
use Rattle.lowered_premises.proofs.Members.{both_ok, each_at, ok_same}
use Rattle.lowered_premises.proofs.Names.{aggregate_found}
use Rattle.lowered_premises.proofs.Rows.{has_type, on_a_row, row_known, row_typed}
use Rattle.lowered_premises.proofs.Standing.{HaveTypes, SizedLaw, few, stands}

module _ (fit : ColumnsFit) (sized : SizedLaw) (kinds : KindLaw) (known : KnownLaw) (defs : List TableDef) (ts : List Table) (p : RelPlan) (s : PlanSource) (def : TableDef) (t : Table) (h : CanLower defs ts p) (o : OverTable defs ts p s def t) (rows : List FromRow) (are : All (IsRowOf t) rows) where
  abbrev texts : List (List ℕ)
  texts = texts_of defs ts

  row_is : (row : FromRow) → Contains rows row → IsRowOf t row
  row_is row m = All-contains (IsRowOf t) rows row are m

  -- ---- columns

  typed_group : (key : List Value) → IsKeyIn p.groups rows key → HaveTypes defs (places p) (group_value p.groups key)
  typed_group key is c type e =
      group_holds (λ (v : Value). is_of (kind_of type.kind) v ≡ true) p.groups rows key c refl (λ row m. row_typed fit sized defs ts p s def t h o c type e row (row_is row m)) is

  known_group : (key : List Value) → IsKeyIn p.groups rows key → (c : ColumnRef) → is_known texts (group_value p.groups key c) ≡ true
  known_group key is c = group_holds (λ (v : Value). is_known texts v ≡ true) p.groups rows key c refl (λ row m. row_known fit sized defs ts p s def t h o c row (row_is row m)) is

  -- ---- aggregates

  argument_stands : (a : Aggregate) → Contains p.aggregates a → (e : TypedExpr) → a.argument ≡ Some e → AreDeclared defs (places p) e
  argument_stands a m e is = All-contains (λ (x : Aggregate). (y : TypedExpr) → x.argument ≡ Some y → AreDeclared defs (places p) y) p.aggregates a h.well_formed.names.aggregates m e is

  argument_lowerable : (a : Aggregate) → Contains p.aggregates a → (e : TypedExpr) → a.argument ≡ Some e → IsLowerable no_aggregate e
  argument_lowerable a m e is = All-contains (λ (x : Aggregate). (y : TypedExpr) → x.argument ≡ Some y → IsLowerable no_aggregate y) p.aggregates a h.lowerable.arguments m e is

  -- the value of an aggregate of a group
  good : (g : Group) → IsGroup p.groups rows g → (values : List Value) → each (λ a. aggregate_value a (map column_value g.rows)) p.aggregates ≡ Ok values → (n : ℕ) (u : DataType) → types_of p.aggregates n ≡ Some u → Good texts u.kind (get_or values n null)
  good g is values made n u typed =
      let x = chosen (slice_get p.aggregates n) aggregate_type u typed in
      let m : Contains p.aggregates x.0 = (n, slice_get_within p.aggregates n x.0 x.1, get_or_from_slice_get p.aggregates n x.0 x.0 x.1) in
      aggregate_good kinds known texts x.0 u g.rows (get_or values n null) x.2 (λ e a. argument_lowerable x.0 m e a)
      (λ e a row r. on_a_row fit sized defs ts p s def t h o no_aggregate e (argument_stands x.0 m e a) row (row_is row (is.within row r)))
      (each_at (λ a. aggregate_value a (map column_value g.rows)) p.aggregates values n x.0 null made x.1)

  -- ---- a group

  on_a_group : (e : TypedExpr) → IsLowerable (types_of p.aggregates) e → AreDeclared defs (places p) e → (on : On) → IsGroupOf (clauses_of_plan p) rows on → CanStand texts (types_of p.aggregates) on e
  on_a_group e l declared on is =
      let g = is.0 in
      let group = group_is p.groups rows g is.1 in
      let made = both_ok (each (λ a. aggregate_value a (map column_value g.rows)) p.aggregates) (λ values. Ok (record { column = group_value p.groups g.key; aggregate = λ n. Ok (get_or values n null) })) on is.2 in
      let each_good = good g group made.0 made.1 in
      let stood = stands texts defs (places p) (types_of p.aggregates) (group_value p.groups g.key) (λ n. get_or made.0 n null) e (few fit defs ts p s def t h o) declared (typed_group g.key group.key) (λ n u at. (each_good n u at).0)
      (known_group g.key group.key) (λ n m. let u = aggregate_found (types_of p.aggregates) e l.type n l.is m in (each_good n u.0 u.1).1) in
      subst (λ (x : On). CanStand texts (types_of p.aggregates) x e) (ok_same (record { column = group_value p.groups g.key; aggregate = λ n. Ok (get_or made.0 n null) }) on made.2) stood

  -- a group's column
  column_good : (c : ColumnRef) (type : ColumnType) → column_at defs (places p) c ≡ Some type → (on : On) → IsGroupOf (clauses_of_plan p) rows on → Good texts (kind_of type.kind) (on.column c)
  column_good c type e on is =
      let g = is.0 in
      let group = group_is p.groups rows g is.1 in
      let made = both_ok (each (λ a. aggregate_value a (map column_value g.rows)) p.aggregates) (λ values. Ok (record { column = group_value p.groups g.key; aggregate = λ n. Ok (get_or values n null) })) on is.2 in
      subst (λ (x : On). Good texts (kind_of type.kind) (x.column c)) (ok_same (record { column = group_value p.groups g.key; aggregate = λ n. Ok (get_or made.0 n null) }) on made.2)
      (typed_group g.key group.key c type e, known_group g.key group.key c)

  module _ (groups : List On) (all : All (IsGroupOf (clauses_of_plan p) rows) groups) where
    stood : (e : TypedExpr) → IsLowerable (types_of p.aggregates) e → AreDeclared defs (places p) e → CanValueAll texts (types_of p.aggregates) itself groups e
    stood e l declared = λ i on m. on_a_group e l declared (get_or groups i on) (all i on m)

    alike : (c : ColumnRef) → IsColumn defs (places p) c → AreAlike texts (map (λ (on : On). (itself on).column c) groups)
    alike c is =
        let type = has_type defs (places p) c is in
        record {
          kind = kind_of type.0.kind;
          each_is = All-map (λ (v : Value). is_of (kind_of type.0.kind) v ≡ true) (λ (on : On). on.column c) groups (λ i on m. (column_good c type.0 type.1 (get_or groups i on) (all i on m)).0);
          known = All-map (λ (v : Value). is_known texts v ≡ true) (λ (on : On). on.column c) groups (λ i on m. (column_good c type.0 type.1 (get_or groups i on) (all i on m)).1);
        }

    key_is_alike : (k : KeyRef) → IsKey defs (places p) (length p.items) k → key_alike texts itself groups k
    key_is_alike (Item n) is = tt
    key_is_alike (Column c) is = alike c is

    pub groups_stand : StandOnGroups defs ts p groups
    groups_stand =
        let names = h.well_formed.names in
        record {
          having = all_optional (CanValueAll texts (types_of p.aggregates) itself groups) p.having (λ e is. stood e (h.lowerable.having e is) (names.having e is));
          items = λ k d l. stood (get_or p.items k d) (h.lowerable.items k d l) (names.items k d l);
          keys = λ k d l. key_is_alike (get_or p.order k d).key (names.order k d l);
        }

pub groups_law : ColumnsFit → SizedLaw → KindLaw → KnownLaw → GroupsLaw
groups_law fit sized kinds known defs ts p s def t rows groups h o are all = groups_stand fit sized kinds known defs ts p s def t h o rows are groups all
