-- A query that has a typed form is typed, over the columns of the catalog.
use Rattle.std.proofs.Common.{◌≡◌, ℕ, ◌+◌, ◌<◌, Bool, true, false, List, [], length, Option, Some, None, Ok, refl, ap, subst, arith}
use Rattle.std.specs.Prelude.{All}
use Rattle.std.specs.List.{slice_get}
use Rattle.std.specs.Option.{ForSome}
use Rattle.std.proofs.lemmas.List.Elements.{All-nil, All-same, All-weaker}
use Rattle.sql_read.specs.declared.definition.TableDef.{TableDef}
use Rattle.query_trees.specs.declared.expr.Expr.{Expr}
use Rattle.query_trees.specs.declared.query.Query.{Query}
use Rattle.typed_trees.specs.declared.typed.Aggregate.{Aggregate}
use Rattle.typed_trees.specs.declared.typed.ColumnRef.{ColumnRef}
use Rattle.typed_trees.specs.declared.typed.ColumnType.{ColumnType}
use Rattle.typed_trees.specs.declared.typed.KeyRef.{KeyRef}
use Rattle.typed_trees.specs.declared.typed.KeyRef.TheVariants as key
use Rattle.typed_trees.specs.declared.typed.OrderKey.{OrderKey}
use Rattle.typed_trees.specs.declared.typed.PlanSource.{PlanSource}
use Rattle.typed_trees.specs.declared.typed.TypedExpr.{TypedExpr}
use Rattle.typed_trees.specs.declared.typed.TypedQuery.{TypedQuery}
use Rattle.typed_trees.specs.Columns.{columns_in}
use Rattle.typed_trees.specs.Kinds.{is_truth}
use Rattle.typed_trees.specs.Typed.{HasType, IsCondition, IsAggregate, IsTyped, is_value}
use Rattle.typed_trees.specs.Types.{no_aggregate, types_of}
use Rattle.query_types.specs.declared.query.Answered.{Answered}
use Rattle.query_types.specs.declared.scope.Called.{Called}
use Rattle.query_types.specs.declared.sources.Tables.{Tables}
use Rattle.query_types.specs.Conjuncts.{parts}
use Rattle.query_types.specs.Expressions.{is_row, condition}
use Rattle.query_types.specs.Grouping.{groups_of, is_grouped}
use Rattle.query_types.specs.Items.{shown_of}
use Rattle.query_types.specs.Names.{Scope, may_stand, on_rows, on_groups}
use Rattle.query_types.specs.Ordering.{keys}
use Rattle.query_types.specs.Sources.{tables_of}
use Rattle.query_types.specs.Typing.{filter, having, scope_of, answered_with, answer, query_of, typed_over, typed_query}
use Rattle.query_types.proofs.OutcomeLaws.{ok_same, then_ok}
use Rattle.typing_laws.specs.Laws.{IsDeclared, AreDeclared, IsColumn, IsKey, IsTable, IsOfCatalog, AreGroupColumns, IsGroupKey, IsOnGroups, TypedLaw, ColumnLaw, GroupLaw}
use Rattle.typing_laws.proofs.Columns.{places, IsStanding}
use Rattle.typing_laws.proofs.Grown.{IsGood, grown_then, Sees}
use Rattle.typing_laws.proofs.Keys.{group_columns, no_groups, IsStandingKey, Key, order_keys}
use Rattle.typing_laws.proofs.Parts.{IsPart, parts_typed}
use Rattle.typing_laws.proofs.Tables.{AreTables, table_places, are_tables}
use Rattle.typing_laws.proofs.Values.{Fits, has_type, condition_fits, having_fits, shown_more, list_shown}

declared : (s : Scope) (x : TypedExpr) → All (IsStanding s) (columns_in x) → AreDeclared s.defs (places s.tables) x
declared s x h = All-weaker (IsStanding s) (IsDeclared s.defs (places s.tables)) (λ c k. k.declared) (columns_in x) h

abbrev MayStand : Scope → TypedExpr → Type 0
MayStand s x = All (λ (c : ColumnRef × ColumnType). may_stand s.level s.groups c.0 ≡ true) (columns_in x)

may : (s : Scope) (x : TypedExpr) → All (IsStanding s) (columns_in x) → MayStand s x
may s x h = All-weaker (IsStanding s) (λ (c : ColumnRef × ColumnType). may_stand s.level s.groups c.0 ≡ true) (λ c k. k.may) (columns_in x) h

-- ---- WHERE

where_parts : (defs : List TableDef) (tables : List Called) (x : Option Expr) (ps : List TypedExpr) → filter (on_rows defs tables) x ≡ Ok ps → All (IsPart no_aggregate defs (places tables)) ps
where_parts defs tables None ps is = subst (λ z. All (IsPart no_aggregate defs (places tables)) z) (ok_same [] ps is) (All-nil (IsPart no_aggregate defs (places tables)))
where_parts defs tables (Some x) ps is =
    let s = on_rows defs tables in
    let r = then_ok (condition s x []) (λ r. Ok (parts r.0)) ps is in
    let h = ((condition_fits s x []).gives r.0.1 r.0.0 r.1).1 in
    let part : IsPart no_aggregate defs (places tables) r.0.0 = record { typed = has_type s is_truth r.0.1 r.0.0 no_aggregate tt h; columns = declared s r.0.0 h.columns } in
    subst (λ z. All (IsPart no_aggregate defs (places tables)) z) (ok_same (parts r.0.0) ps r.2) (parts_typed no_aggregate defs (places tables) r.0.0 part)

-- ---- the items, HAVING and ORDER BY

record IsAnswer (defs : List TableDef) (tables : List Called) (a : Answered) : Type 0 where
  aggregates : All (IsGood defs tables) a.aggregates
  having : ForSome a.having (IsPart (types_of a.aggregates) defs (places tables))
  items : All (HasType (types_of a.aggregates) is_value) a.shown.items
  columns : All (AreDeclared defs (places tables)) a.shown.items
  names : length a.shown.names ≡ length a.shown.items
  order : All (λ k. IsKey defs (places tables) (length a.shown.items) k.key) a.order

-- what its columns are in their scope
record Stands (s : Scope) (a : Answered) : Type 0 where
  having : ForSome a.having (MayStand s)
  items : All (MayStand s) a.shown.items
  order : All (λ k. IsStandingKey s k.key) a.order
  none : is_row s.level ≡ true → a.aggregates ≡ []

record IsBoth (s : Scope) (a : Answered) : Type 0 where
  answer : IsAnswer s.defs s.tables a
  stands : Stands s a

answered : (s : Scope) (q : Query) (a : Answered) → ((l : List Aggregate) → Sees (is_row s.level) l (types_of l)) → answer s q ≡ Ok a → IsBoth s a
unfolding answer
answered s q a sees is =
    let x = then_ok (shown_of s q.list []) _ a is in
    let y = then_ok (having s q.having x.0.1) _ a x.2 in
    let z = then_ok (keys s x.0.0.names [] q.order) _ a y.2 in
    let first = (list_shown s q.list []).gives x.0.1 x.0.0 x.1 in
    let second = (having_fits s q.having x.0.1).gives y.0.1 y.0.0 y.1 in
    let all = grown_then first.0 second.0 in
    let shown = shown_more s x.0.1 y.0.1 x.0.0 second.0 first.1 in
    let at = types_of y.0.1 in
    let sorted = order_keys s x.0.0.names q.order [] z.0 (All-nil (λ (k : OrderKey). Key s (length x.0.0.names) k.key)) z.1 in
    subst (λ b. IsBoth s b) (ok_same (answered_with x.0.0 y.0.0 y.0.1 z.0) a z.2) record {
      answer = record {
        aggregates = All-same (IsGood s.defs s.tables) y.0.1 all.new all.is all.good;
        having = λ c same. let h = second.1 c same in record { typed = has_type s is_truth y.0.1 c at (sees y.0.1) h; columns = declared s c h.columns };
        items = All-weaker (Fits s is_value y.0.1) (HasType at is_value) (λ c h. has_type s is_value y.0.1 c at (sees y.0.1) h) x.0.0.items shown.items;
        columns = All-weaker (Fits s is_value y.0.1) (AreDeclared s.defs (places s.tables)) (λ c h. declared s c h.columns) x.0.0.items shown.items;
        names = shown.names;
        order = subst (λ n. All (λ (k : OrderKey). IsKey s.defs (places s.tables) n k.key) z.0) shown.names (All-weaker (λ (k : OrderKey). Key s (length x.0.0.names) k.key) (λ (k : OrderKey). IsKey s.defs (places s.tables) (length x.0.0.names) k.key) (λ k h. h.is) z.0 sorted);
      };
      stands = record {
        having = λ c same. may s c (second.1 c same).columns;
        items = All-weaker (Fits s is_value y.0.1) (MayStand s) (λ c h. may s c h.columns) x.0.0.items shown.items;
        order = All-weaker (λ (k : OrderKey). Key s (length x.0.0.names) k.key) (λ (k : OrderKey). IsStandingKey s k.key) (λ k h. h.may) z.0 sorted;
        none = all.none;
      };
    }

-- outside aggregates the columns are of these groups
record OnGroups (groups : List ColumnRef) (a : Answered) : Type 0 where
  having : ForSome a.having (AreGroupColumns groups)
  items : All (AreGroupColumns groups) a.shown.items
  order : All (λ k. IsGroupKey groups k.key) a.order

record IsInScope (defs : List TableDef) (tables : List Called) (groups : List ColumnRef) (a : Answered) : Type 0 where
  answer : IsAnswer defs tables a
  grouped : 0 < length groups + length a.aggregates → OnGroups groups a

group_key : (defs : List TableDef) (tables : List Called) (groups : List ColumnRef) (k : KeyRef) → IsStandingKey (on_groups defs tables groups) k → IsGroupKey groups k
group_key defs tables groups (key.Item k) h = tt
group_key defs tables groups (key.Column c) h = h

in_scope : (defs : List TableDef) (tables : List Called) (groups : List ColumnRef) (q : Query) (a : Answered) (grouped : Bool) → (grouped ≡ false → groups ≡ []) → answer (scope_of defs tables groups grouped) q ≡ Ok a → IsInScope defs tables groups a
in_scope defs tables groups q a true none is =
    let h = answered (on_groups defs tables groups) q a (λ l n u e. e) is in
    record {
      answer = h.answer;
      grouped = λ some. record {
        having = h.stands.having;
        items = h.stands.items;
        order = All-weaker (λ (k : OrderKey). IsStandingKey (on_groups defs tables groups) k.key) (λ (k : OrderKey). IsGroupKey groups k.key) (λ k s. group_key defs tables groups k.key s) a.order h.stands.order;
      };
    }
in_scope defs tables groups q a false none is =
    let h = answered (on_rows defs tables) q a (λ l. tt) is in
    let no_groups : length groups ≡ 0 = ap length (none refl) in
    let no_aggregates : length a.aggregates ≡ 0 = ap length (h.stands.none refl) in
    record { answer = h.answer; grouped = λ some. absurd (omega arith) }

-- ---- the whole query

record IsWhole (defs : List TableDef) (t : TypedQuery) : Type 0 where
  pub typed : IsTyped t
  pub columns : IsOfCatalog defs t
  pub grouped : 0 < length t.groups + length t.aggregates → IsOnGroups t

-- its columns, over the tables at these places
abbrev Declares : List TableDef → TypedQuery → List ℕ → Type 0
Declares defs t ps =
    All (AreDeclared defs ps) t.filter
    × All (λ a. ForSome a.argument (AreDeclared defs ps)) t.aggregates
    × ForSome t.having (AreDeclared defs ps)
    × All (AreDeclared defs ps) t.items
    × All (IsColumn defs ps) t.groups
    × All (λ k. IsKey defs ps (length t.items) k.key) t.order
    × ((s : ℕ) (x : PlanSource) → slice_get t.sources s ≡ Some x → IsTable defs ps s x)

whole : (defs : List TableDef) (f : Tables) (ps : List TypedExpr) (groups : List ColumnRef) (a : Answered) → AreTables defs f → All (IsPart no_aggregate defs (places f.called)) ps → All (IsColumn defs (places f.called)) groups → IsInScope defs f.called groups a → IsWhole defs (query_of f ps groups a)
whole defs f ps groups a tables conditions columns scoped =
    let h = scoped.answer in
    let here = places f.called in
    let at = types_of a.aggregates in
    let t = query_of f ps groups a in
    let declared : Declares defs t here = (
      All-weaker (IsPart no_aggregate defs here) (AreDeclared defs here) (λ c k. k.columns) ps conditions,
      All-weaker (IsGood defs f.called) (λ b. ForSome b.argument (AreDeclared defs here)) (λ b k. k.declared) a.aggregates h.aggregates,
      λ c same. (h.having c same).columns,
      h.columns,
      columns,
      h.order,
      tables.known,
    ) in
    let moved : Declares defs t (table_places f.sources) = subst (λ qs. Declares defs t qs) tables.same declared in
    record {
      typed = record {
        sources = tables.plain;
        filter = All-weaker (IsPart no_aggregate defs here) (IsCondition no_aggregate) (λ c k. k.typed) ps conditions;
        aggregates = All-weaker (IsGood defs f.called) IsAggregate (λ b k. k.is) a.aggregates h.aggregates;
        having = λ c same. (h.having c same).typed;
        items = h.items;
      };
      columns = record {
        filter = moved.0;
        aggregates = moved.1;
        having = moved.2;
        items = moved.3;
        groups = moved.4;
        order = moved.5;
        sources = moved.6;
        names = h.names;
      };
      grouped = λ some. let g = scoped.grouped some in record { having = g.having; items = g.items; order = g.order };
    }

over_whole : (defs : List TableDef) (q : Query) (f : Tables) (t : TypedQuery) → AreTables defs f → typed_over defs q f ≡ Ok t → IsWhole defs t
unfolding typed_over
over_whole defs q f t tables is =
    let x = then_ok (filter (on_rows defs f.called) q.filter) _ t is in
    let y = then_ok (groups_of defs f.called q) _ t x.2 in
    let z = then_ok (answer (scope_of defs f.called y.0 (is_grouped q)) q) _ t y.2 in
    subst (λ u. IsWhole defs u) (ok_same (query_of f x.0 y.0 z.0) t z.2)
    (whole defs f x.0 y.0 z.0 tables (where_parts defs f.called q.filter x.0 x.1) (group_columns defs f.called q y.0 y.1) (in_scope defs f.called y.0 q z.0 (is_grouped q) (λ e. no_groups defs f.called q y.0 e y.1) z.1))

query_whole : (q : Query) (defs : List TableDef) (t : TypedQuery) → typed_query q defs ≡ Ok t → IsWhole defs t
unfolding typed_query
query_whole q defs t is =
    let x = then_ok (tables_of defs q.source) (typed_over defs q) t is in
    over_whole defs q x.0 t (are_tables defs q.source x.0 x.1) x.2

pub typed_law : TypedLaw
typed_law q defs t is = (query_whole q defs t is).typed

pub column_law : ColumnLaw
column_law q defs t is = (query_whole q defs t is).columns

pub group_law : GroupLaw
group_law q defs t is = (query_whole q defs t is).grouped
