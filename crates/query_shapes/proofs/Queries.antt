-- Every query that has a typed form has its shape.
use Rattle.std.proofs.Common.{◌≡◌, ◌≤◌, List, [], length, Option, Some, None, Ok, is_some, refl, ap, subst, arith}
use Rattle.sql_read.specs.declared.definition.TableDef.{TableDef}
use Rattle.query_trees.specs.declared.expr.Expr.{Expr}
use Rattle.query_trees.specs.declared.query.Query.{Query}
use Rattle.typed_trees.specs.declared.typed.ColumnRef.{ColumnRef}
use Rattle.typed_trees.specs.declared.typed.TypedQuery.{TypedQuery}
use Rattle.query_types.specs.declared.query.Answered.{Answered}
use Rattle.query_types.specs.declared.sources.Tables.{Tables}
use Rattle.query_types.specs.Grouping.{groups_of, is_grouped}
use Rattle.query_types.specs.Items.{shown_of}
use Rattle.query_types.specs.Names.{Scope, on_rows}
use Rattle.query_types.specs.Ordering.{keys}
use Rattle.query_types.specs.Sources.{tables_of}
use Rattle.query_types.specs.Typing.{filter, having, scope_of, answered_with, answer, query_of, typed_over, typed_query}
use Rattle.query_types.proofs.OutcomeLaws.{ok_same, then_ok}
use Rattle.query_shapes.specs.Laws.{HasGroups, ShapeLaw}
use Rattle.query_shapes.specs.Shapes.{IsShaped}
use Rattle.query_shapes.proofs.Clauses.{none_written, few_shown, few_groups, some_groups, few_keys}
use Rattle.query_shapes.proofs.Tables.{AreFew, are_few}

-- ---- items, HAVING and ORDER BY

record IsAnswer (q : Query) (a : Answered) : Type 0 where
  items : length a.shown.items ≤ 64
  order : length a.order ≤ 8
  having : q.having ≡ None → a.having ≡ None

answered : (s : Scope) (q : Query) (a : Answered) → answer s q ≡ Ok a → IsAnswer q a
unfolding answer
answered s q a e =
    let x = then_ok (shown_of s q.list []) _ a e in
    let y = then_ok (having s q.having x.0.1) _ a x.2 in
    let z = then_ok (keys s x.0.0.names [] q.order) _ a y.2 in
    subst (IsAnswer q) (ok_same (answered_with x.0.0 y.0.0 y.0.1 z.0) a z.2) record {
      items = few_shown s q.list [] x.0.1 x.0.0 x.1;
      order = few_keys s x.0.0.names q.order [] z.0 (omega arith) z.1;
      having = λ none. none_written s x.0.1 y.0.1 y.0.0 (subst (λ (o : Option Expr). having s o x.0.1 ≡ Ok y.0) none y.1);
    }

-- ---- the whole

-- without group columns there is no HAVING
no_having : (defs : List TableDef) (q : Query) (f : Tables) (groups : List ColumnRef) (a : Answered) → HasGroups q → groups_of defs f.called q ≡ Ok groups → IsAnswer q a → groups ≡ [] → a.having ≡ None
no_having defs q f groups a has found h empty = by q.having refl
  where
    by : (o : Option Expr) → q.having ≡ o → a.having ≡ None
    by None e = h.having e
    by (Some x) e =
        let some = some_groups defs f.called q groups (has (ap is_some e)) found in
        let none : length groups ≡ 0 = ap length empty in
        absurd (omega (arith, some, none))

shape_over : (defs : List TableDef) (q : Query) (f : Tables) (t : TypedQuery) → HasGroups q → AreFew f → typed_over defs q f ≡ Ok t → IsShaped t
unfolding typed_over
shape_over defs q f t has tables e =
    let x = then_ok (filter (on_rows defs f.called) q.filter) _ t e in
    let y = then_ok (groups_of defs f.called q) _ t x.2 in
    let z = then_ok (answer (scope_of defs f.called y.0 (is_grouped q)) q) _ t y.2 in
    let a = answered (scope_of defs f.called y.0 (is_grouped q)) q z.0 z.1 in
    subst IsShaped (ok_same (query_of f x.0 y.0 z.0) t z.2) record {
      some_source = tables.some;
      few_sources = tables.few;
      plain = tables.plain;
      few_items = a.items;
      few_groups = few_groups defs f.called q y.0 y.1;
      few_keys = a.order;
      having = no_having defs q f y.0 z.0 has y.1 a;
    }

pub shape_law : ShapeLaw
unfolding typed_query
shape_law q defs t has e = let x = then_ok (tables_of defs q.source) (typed_over defs q) t e in shape_over defs q x.0 t has (are_few defs q.source x.0 x.1) x.2
