-- What the generated job's query asks: the tree of its text, each part at its byte, and the query as it is typed over the made table.
use Rattle.std.specs.Prelude.{◌≡◌, ℕ, pos, false, List, [], ◌∷◌, codes, Some, None, Ok}
use Rattle.query_read.specs.QueryText.{query_of}
use Rattle.query_trees.specs.declared.clauses.Direction.TheVariants.{Ascending}
use Rattle.query_trees.specs.declared.clauses.SelectItem.{SelectItem}
use Rattle.query_trees.specs.declared.clauses.SelectList.TheVariants as select
use Rattle.query_trees.specs.declared.clauses.SortBy.TheVariants as by
use Rattle.query_trees.specs.declared.expr.AggregateKind.TheVariants as read
use Rattle.query_trees.specs.declared.expr.BinaryOp.TheVariants as op
use Rattle.query_trees.specs.declared.expr.ColumnName.{ColumnName}
use Rattle.query_trees.specs.declared.expr.Expr.{Expr}
use Rattle.query_trees.specs.declared.expr.Form.TheVariants as f
use Rattle.query_trees.specs.declared.query.Query.{Query}
use Rattle.query_trees.specs.Nodes.{node}
use Rattle.query_types.specs.Typing.{typed_query}
use Rattle.sql_read.specs.declared.definition.ColumnKind.{ColumnKind}
use Rattle.sql_read.specs.declared.definition.ColumnKind.TheVariants.{Integer, Date, Text}
use Rattle.typed_trees.specs.declared.typed.AggregateKind.TheVariants as of
use Rattle.typed_trees.specs.declared.typed.ColumnRef.{ColumnRef}
use Rattle.typed_trees.specs.declared.typed.KeyRef.TheVariants.{Item}
use Rattle.typed_trees.specs.declared.typed.TypedExpr.{TypedExpr}
use Rattle.typed_trees.specs.declared.typed.TypedExpr.TheVariants as e
use Rattle.typed_trees.specs.declared.typed.TypedQuery.{TypedQuery}
use Rattle.data_make.specs.Job.{made_query}
use Rattle.data_make.specs.Loading.{made_def}

-- ---- as it is written

abbrev pub named_at : ℕ → List ℕ → ColumnName
named_at at name = record { at = at; table = None; name = name; name_at = at }

abbrev pub written : ℕ → List ℕ → Expr
written at name = node at (f.Column (named_at at name))

-- an item under a name
abbrev pub as_name : Expr → ℕ → List ℕ → SelectItem
as_name x at name = record { value = x; alias = Some (record { name = name; at = at }) }

abbrev pub made_tree : Query
made_tree = record {
  at = 0;
  distinct = None;
  list = select.Items (
      record { value = written 7 (codes "kind"); alias = None }
      ∷ as_name (node 13 f.CountAll) 25 (codes "n")
      ∷ as_name (node 28 (f.Aggregate read.Sum (written 32 (codes "amount")))) 43 (codes "total")
      ∷ as_name (node 50 (f.Aggregate read.Avg (written 54 (codes "amount")))) 65 (codes "mean")
      ∷ []);
  source = record { first = record { name = codes "made"; at = 75; alias = None }; joins = [] };
  -- 1992-03-01 is day 8095
  filter = Some (node 86 (f.Binary op.GreaterEqual 94 (written 86 (codes "shipped")) (node 97 (f.Date (pos 8095)))));
  groups = named_at 124 (codes "kind") ∷ [];
  having = None;
  order = record { at = 138; by = by.Column (named_at 138 (codes "kind")); direction = Ascending } ∷ [];
}

-- ---- as it is meant

-- the column in this place, from 0
abbrev pub place : ℕ → ColumnRef
place n = record { source = 0; column = n }

abbrev pub column : ℕ → ColumnKind → ℕ → TypedExpr
column n kind width = e.Column (place n) (record { kind = kind; width = width; scale = 0 })

abbrev pub made_typed : TypedQuery
made_typed = record {
  sources = record { table = 0; columns = 0 ∷ 1 ∷ 2 ∷ 3 ∷ []; filter = []; join = None } ∷ [];
  filter = e.Binary op.GreaterEqual (column 2 Date 0) (e.Date (pos 8095)) ∷ [];
  groups = place 1 ∷ [];
  aggregates =
      record { kind = of.Count; argument = None }
      ∷ record { kind = of.Sum; argument = Some (column 3 Integer 0) }
      ∷ record { kind = of.Avg; argument = Some (column 3 Integer 0) }
      ∷ [];
  having = None;
  items = column 1 Text 5 ∷ e.Aggregate 0 0 ∷ e.Aggregate 1 0 ∷ e.Aggregate 2 0 ∷ [];
  order = record { key = Item 0; descending = false } ∷ [];
  names = codes "kind" ∷ codes "n" ∷ codes "total" ∷ codes "mean" ∷ [];
}

abbrev pub QueryIsRead : Type 0
QueryIsRead = query_of made_query ≡ Ok made_tree

abbrev pub QueryIsTyped : Type 0
QueryIsTyped = typed_query made_tree (made_def ∷ []) ≡ Ok made_typed
