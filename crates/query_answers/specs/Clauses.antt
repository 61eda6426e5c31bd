-- The clauses of a query, be it a typed one or a plan: all that its answer is made of. After SQL-92 (ISO/IEC 9075:1992), 7.3 to 7.9 and 13.1.
use Rattle.std.specs.Prelude.{Bool, true, false, List, [], Option}
use Rattle.typed_trees.specs.declared.typed.ColumnRef.{ColumnRef}
use Rattle.typed_trees.specs.declared.typed.TypedExpr.{TypedExpr}
use Rattle.typed_trees.specs.declared.typed.Aggregate.{Aggregate}
use Rattle.typed_trees.specs.declared.typed.PlanSource.{PlanSource}
use Rattle.typed_trees.specs.declared.typed.OrderKey.{OrderKey}
use Rattle.typed_trees.specs.declared.typed.TypedQuery.{TypedQuery}

pub record Clauses : Type 0 where
  -- the tables of FROM in order, each with the conditions on its rows alone, and how it joins those to its left
  pub sources : List PlanSource
  -- the parts of WHERE's condition that AND joins
  pub filter : List TypedExpr
  -- whether there is GROUP BY, DISTINCT or an aggregate
  pub grouped : Bool
  -- the group columns
  pub groups : List ColumnRef
  -- the aggregates, wherever they are written
  pub aggregates : List Aggregate
  -- the condition of HAVING
  pub having : Option TypedExpr
  -- the select list
  pub items : List TypedExpr
  -- the keys of ORDER BY
  pub order : List OrderKey

-- a query of group columns or aggregates is grouped
abbrev pub is_grouped : List ColumnRef → List Aggregate → Bool
is_grouped [] [] = false
is_grouped groups aggregates = true

-- those of a typed query
abbrev pub clauses_of : TypedQuery → Clauses
clauses_of q = record {
  sources = q.sources;
  filter = q.filter;
  grouped = is_grouped q.groups q.aggregates;
  groups = q.groups;
  aggregates = q.aggregates;
  having = q.having;
  items = q.items;
  order = q.order;
}
