-- The literals of a query that is read and typed are as the grammar has them.
use Rattle.std.proofs.Common.{◌≡◌, Bool, true, false, ◌&&◌, List, [], ◌∷◌, ◌++◌, length, Option, Some, None, Ok, subst}
use Rattle.std.specs.Prelude.{All}
use Rattle.std.specs.Option.{ForSome}
use Rattle.std.proofs.lemmas.Bool.{and_parts}
use Rattle.std.proofs.lemmas.List.Elements.{All-nil, All-push}
use Rattle.sql_read.specs.declared.definition.TableDef.{TableDef}
use Rattle.query_trees.specs.declared.clauses.Join.{Join}
use Rattle.query_trees.specs.declared.clauses.Source.{Source}
use Rattle.query_trees.specs.declared.expr.Expr.{Expr}
use Rattle.query_trees.specs.declared.query.Query.{Query}
use Rattle.typed_trees.specs.declared.typed.ColumnRef.{ColumnRef}
use Rattle.typed_trees.specs.declared.typed.PlanSource.{PlanSource}
use Rattle.typed_trees.specs.declared.typed.TypedExpr.{TypedExpr}
use Rattle.typed_trees.specs.declared.typed.TypedQuery.{TypedQuery}
use Rattle.query_types.specs.declared.query.Answered.{Answered}
use Rattle.query_types.specs.declared.scope.Called.{Called}
use Rattle.query_types.specs.declared.sources.Tables.{Tables}
use Rattle.query_types.specs.Conjuncts.{parts}
use Rattle.query_types.specs.Expressions.{condition}
use Rattle.query_types.specs.Grouping.{groups_of, is_grouped}
use Rattle.query_types.specs.Items.{shown_of}
use Rattle.query_types.specs.Names.{Scope, on_rows}
use Rattle.query_types.specs.Ordering.{keys}
use Rattle.query_types.specs.Sources.{opened, link, source_of, with_table, with_join, with_joins, first, tables_of}
use Rattle.query_types.specs.Typing.{filter, having, scope_of, answered_with, answer, query_of, typed_over, typed_query}
use Rattle.query_types.proofs.OutcomeLaws.{ok_same, then_ok}
use Rattle.written_queries.specs.Bounds.{list_bounded, optional_bounded, IsBounded, BoundedLaw}
use Rattle.written_queries.specs.Laws.{IsAsWritten, IsWritten, WrittenLaw}
use Rattle.written_queries.specs.Scales.{HasScales}
use Rattle.written_queries.proofs.Clauses.{condition_makes, having_makes, list_makes}
use Rattle.written_queries.proofs.Parts.{parts_written}
use Rattle.written_queries.proofs.Steps.{HasLiterals, AreWritten}

-- ---- FROM: its tables have no conditions of their own

abbrev IsBare : PlanSource → Type 0
IsBare s = All IsAsWritten s.filter

abbrev AreBare : Tables → Type 0
AreBare f = All IsBare f.sources

joined : (defs : List TableDef) (f g : Tables) (j : Join) → AreBare f → with_join defs f j ≡ Ok g → AreBare g
unfolding with_join
joined defs f g j h is =
    let t = then_ok (opened defs f.called j.table) _ g is in
    let l = then_ok (link defs (f.called ++ t.0 ∷ []) (length f.called) t.0.table j.kind) _ g t.2 in
    subst AreBare (ok_same (with_table defs f t.0 l.0) g l.2) (All-push IsBare f.sources (source_of defs t.0.table l.0) h (All-nil IsAsWritten))

all_joined : (defs : List TableDef) (js : List Join) (f g : Tables) → AreBare f → with_joins defs f js ≡ Ok g → AreBare g
all_joined defs [] f g h is = subst AreBare (ok_same f g is) h
all_joined defs (j ∷ js) f g h is =
    let x = then_ok (with_join defs f j) (λ z. with_joins defs z js) g is in
    all_joined defs js x.0 g (joined defs f x.0 j h x.1) x.2

alone : (defs : List TableDef) (s : Source) (f : Tables) → first defs s.first ≡ Ok f → AreBare f
unfolding first
alone defs s f is =
    let t = then_ok (opened defs [] s.first) _ f is in
    let none : Tables = record { called = []; sources = [] } in
    subst AreBare (ok_same (with_table defs none t.0 None) f t.2) (All-push IsBare [] (source_of defs t.0.table None) (All-nil IsBare) (All-nil IsAsWritten))

tables_bare : (defs : List TableDef) (s : Source) (f : Tables) → tables_of defs s ≡ Ok f → AreBare f
unfolding tables_of
tables_bare defs s f is =
    let x = then_ok (first defs s.first) (λ z. with_joins defs z s.joins) f is in
    all_joined defs s.joins x.0 f (alone defs s x.0 x.1) x.2

-- ---- WHERE

where_parts : (defs : List TableDef) (tables : List Called) (x : Option Expr) (ps : List TypedExpr) → HasScales defs → optional_bounded x ≡ true → filter (on_rows defs tables) x ≡ Ok ps → All IsAsWritten ps
where_parts defs tables None ps c bounded is = subst (All IsAsWritten) (ok_same [] ps is) (All-nil IsAsWritten)
where_parts defs tables (Some x) ps c bounded is =
    let s = on_rows defs tables in
    let r = then_ok (condition s x []) (λ r. Ok (parts r.0)) ps is in
    let h = ((condition_makes s x c bounded).gives [] r.0.1 r.0.0 (All-nil HasLiterals) r.1).0 in
    subst (All IsAsWritten) (ok_same (parts r.0.0) ps r.2) (parts_written r.0.0 h)

-- ---- the items and HAVING

record IsAnswer (a : Answered) : Type 0 where
  aggregates : AreWritten a.aggregates
  having : ForSome a.having IsAsWritten
  items : All IsAsWritten a.shown.items

answered : (s : Scope) (q : Query) (a : Answered) → HasScales s.defs → list_bounded q.list ≡ true → optional_bounded q.having ≡ true → answer s q ≡ Ok a → IsAnswer a
unfolding answer
answered s q a c listed had is =
    let x = then_ok (shown_of s q.list []) _ a is in
    let y = then_ok (having s q.having x.0.1) _ a x.2 in
    let z = then_ok (keys s x.0.0.names [] q.order) _ a y.2 in
    let first = (list_makes s q.list c listed).gives [] x.0.1 x.0.0 (All-nil HasLiterals) x.1 in
    let second = (having_makes s q.having c had).gives x.0.1 y.0.1 y.0.0 first.1 y.1 in
    subst IsAnswer (ok_same (answered_with x.0.0 y.0.0 y.0.1 z.0) a z.2) (record { aggregates = second.1; having = second.0; items = first.0 })

in_scope : (defs : List TableDef) (tables : List Called) (groups : List ColumnRef) (q : Query) (a : Answered) (grouped : Bool) → HasScales defs → list_bounded q.list ≡ true → optional_bounded q.having ≡ true
    → answer (scope_of defs tables groups grouped) q ≡ Ok a → IsAnswer a
in_scope defs tables groups q a true c listed had is = answered (scope_of defs tables groups true) q a c listed had is
in_scope defs tables groups q a false c listed had is = answered (scope_of defs tables groups false) q a c listed had is

-- ---- the whole query

over_written : (defs : List TableDef) (q : Query) (f : Tables) (t : TypedQuery) → HasScales defs → IsBounded q → AreBare f → typed_over defs q f ≡ Ok t → IsWritten t
unfolding typed_over
over_written defs q f t c bounded bare is =
    let items = and_parts (list_bounded q.list) (optional_bounded q.filter && optional_bounded q.having) bounded in
    let conditions = and_parts (optional_bounded q.filter) (optional_bounded q.having) items.1 in
    let x = then_ok (filter (on_rows defs f.called) q.filter) _ t is in
    let y = then_ok (groups_of defs f.called q) _ t x.2 in
    let z = then_ok (answer (scope_of defs f.called y.0 (is_grouped q)) q) _ t y.2 in
    let h = in_scope defs f.called y.0 q z.0 (is_grouped q) c items.0 conditions.1 z.1 in
    subst IsWritten (ok_same (query_of f x.0 y.0 z.0) t z.2) (record {
      sources = bare;
      filter = where_parts defs f.called q.filter x.0 c conditions.0 x.1;
      aggregates = h.aggregates;
      having = h.having;
      items = h.items;
    })

typed_written : (q : Query) (defs : List TableDef) (t : TypedQuery) → HasScales defs → IsBounded q → typed_query q defs ≡ Ok t → IsWritten t
unfolding typed_query
typed_written q defs t c bounded is =
    let x = then_ok (tables_of defs q.source) (typed_over defs q) t is in
    over_written defs q x.0 t c bounded (tables_bare defs q.source x.0 x.1) x.2

pub written_law : BoundedLaw → WrittenLaw
written_law bounded text defs q t read scales typed = typed_written q defs t scales (bounded text q read) typed
