-- The typing of a query: FROM, WHERE, GROUP BY, the items, HAVING and ORDER BY, up to the first refusal.
-- After SQL-92 (ISO/IEC 9075:1992), 7.3 to 7.9 <query specification> and 13.1 <order by clause>.
use Rattle.std.specs.Prelude.{Bool, true, false, List, [], Option, Some, None, Ok}
use Rattle.sql_read.specs.declared.definition.TableDef.{TableDef}
use Rattle.query_trees.specs.declared.expr.Expr.{Expr}
use Rattle.query_trees.specs.declared.query.Query.{Query}
use Rattle.typed_trees.specs.declared.typed.TypedExpr.{TypedExpr}
use Rattle.typed_trees.specs.declared.typed.Aggregate.{Aggregate}
use Rattle.typed_trees.specs.declared.typed.ColumnRef.{ColumnRef}
use Rattle.typed_trees.specs.declared.typed.OrderKey.{OrderKey}
use Rattle.typed_trees.specs.declared.typed.TypedQuery.{TypedQuery}
use Rattle.query_types.specs.declared.scope.Called.{Called}
use Rattle.query_types.specs.declared.sources.Tables.{Tables}
use Rattle.query_types.specs.declared.items.Shown.{Shown}
use Rattle.query_types.specs.declared.query.Answered.{Answered}
use Rattle.query_types.specs.Names.{Scope, on_rows, on_groups}
use Rattle.query_types.specs.Expressions.{condition}
use Rattle.query_types.specs.Conjuncts.{parts}
use Rattle.query_types.specs.Sources.{tables_of}
use Rattle.query_types.specs.Grouping.{groups_of, is_grouped}
use Rattle.query_types.specs.Items.{shown_of}
use Rattle.query_types.specs.Ordering.{keys}
use Rattle.query_types.specs.Outcomes.{Outcome, and_then, Collecting, ◌>>=◌, pure}

-- the condition of WHERE, on rows: the parts that AND joins
abbrev pub filter : Scope → Option Expr → Outcome (List TypedExpr)
filter s None = Ok []
filter s (Some e) = and_then (condition s e []) (λ r. Ok (parts r.0))

-- the condition of HAVING, after the aggregates of the items
abbrev pub having : Scope → Option Expr → Collecting (Option TypedExpr)
having s None = pure None
having s (Some e) = condition s e >>= λ x. pure (Some x)

-- what items, HAVING and ORDER BY stand on
abbrev pub scope_of : List TableDef → List Called → List ColumnRef → Bool → Scope
scope_of defs tables groups true = on_groups defs tables groups
scope_of defs tables groups false = on_rows defs tables

-- ---- items, HAVING and ORDER BY in their scope

abbrev pub answered_with : Shown → Option TypedExpr → List Aggregate → List OrderKey → Answered
answered_with shown condition aggregates order = record { shown = shown; having = condition; aggregates = aggregates; order = order }

unfoldable pub answer : Scope → Query → Outcome Answered
answer s q =
    and_then (shown_of s q.list []) (λ shown.
    and_then (having s q.having shown.1) (λ h.
    and_then (keys s shown.0.names [] q.order) (λ order.
    Ok (answered_with shown.0 h.0 h.1 order))))

-- ---- the whole

abbrev pub query_of : Tables → List TypedExpr → List ColumnRef → Answered → TypedQuery
query_of t where_parts groups a = record {
  sources = t.sources;
  filter = where_parts;
  groups = groups;
  aggregates = a.aggregates;
  having = a.having;
  items = a.shown.items;
  order = a.order;
  names = a.shown.names;
}

-- the query over these tables
unfoldable pub typed_over : List TableDef → Query → Tables → Outcome TypedQuery
typed_over defs q t =
    and_then (filter (on_rows defs t.called) q.filter) (λ where_parts.
    and_then (groups_of defs t.called q) (λ groups.
    and_then (answer (scope_of defs t.called groups (is_grouped q)) q) (λ a.
    Ok (query_of t where_parts groups a))))

-- the typed query, or the first refusal
unfoldable pub typed_query : Query → List TableDef → Outcome TypedQuery
typed_query q defs = and_then (tables_of defs q.source) (typed_over defs q)
