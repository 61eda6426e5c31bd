-- How large the expressions of a typed query are, and what no query exceeds.
-- The forms are those of SQL-92 (ISO/IEC 9075:1992), 6.4 to 6.12, 8.2 to 8.4, 8.6 and 8.12.
use Rattle.std.specs.Prelude.{◌≡◌, ℕ, ◌+◌, ◌≤◌, List, length, sum, sum_by, Option, Some, None, Ok}
use Rattle.sql_read.specs.declared.definition.TableDef.{TableDef}
use Rattle.sql_read.specs.Lexis.{Bytes}
use Rattle.query_trees.specs.declared.query.Query.{Query}
use Rattle.query_read.specs.QueryText.{IsQuery}
use Rattle.typed_trees.specs.declared.typed.TypedExpr.{TypedExpr}
use Rattle.typed_trees.specs.declared.typed.TypedExpr.TheOpen.{TypedExpr-F}
use Rattle.typed_trees.specs.declared.typed.TypedExpr.TheFolds.{fold-TypedExpr}
use Rattle.typed_trees.specs.declared.typed.Aggregate.{Aggregate}
use Rattle.typed_trees.specs.declared.typed.PlanSource.{PlanSource}
use Rattle.typed_trees.specs.declared.typed.TypedQuery.{TypedQuery}
use Rattle.query_types.specs.Typing.{typed_query}

-- An operator, a literal, a column and an aggregate are a node each. A divisor is a literal; BETWEEN, IN, NOT, IS NULL, COALESCE and a sign
-- are operators.
abbrev pub form_nodes : TypedExpr-F ℕ → ℕ
form_nodes (TypedExpr-F.Number n scale) = 1
form_nodes (TypedExpr-F.Text text) = 1
form_nodes (TypedExpr-F.Date day) = 1
form_nodes (TypedExpr-F.Column c type) = 1
form_nodes (TypedExpr-F.Aggregate n scale) = 1
form_nodes (TypedExpr-F.Signed s x) = 1 + x
form_nodes (TypedExpr-F.Not x) = 1 + x
form_nodes (TypedExpr-F.Binary o x y) = 1 + x + y
form_nodes (TypedExpr-F.Divide x s n) = 2 + x
form_nodes (TypedExpr-F.Between p x y z) = 1 + x + y + z
form_nodes (TypedExpr-F.In p x ys) = 1 + x + sum ys
form_nodes (TypedExpr-F.IsNull p x) = 1 + x
form_nodes (TypedExpr-F.Coalesce x ys) = 1 + x + sum ys

-- the nodes of an expression
unfoldable pub nodes : TypedExpr → ℕ
nodes = fold-TypedExpr ℕ form_nodes

-- ---- the expressions of a query

abbrev pub optional_nodes : Option TypedExpr → ℕ
optional_nodes None = 0
optional_nodes (Some e) = nodes e

-- those of its argument
abbrev pub aggregate_nodes : Aggregate → ℕ
aggregate_nodes a = optional_nodes a.argument

-- those of the conditions on a table's rows
abbrev pub source_nodes : PlanSource → ℕ
source_nodes s = sum_by nodes s.filter

-- those of WHERE, of the aggregates' arguments, of HAVING, of the items and of the tables' conditions
abbrev pub query_nodes : TypedQuery → ℕ
query_nodes t = sum_by nodes t.filter + sum_by aggregate_nodes t.aggregates + optional_nodes t.having + sum_by nodes t.items + sum_by source_nodes t.sources

abbrev pub IsSmall : TypedQuery → Type 0
IsSmall t = (query_nodes t ≤ 2176) × (length t.aggregates ≤ 512)

-- a query that is read and typed is small
abbrev pub SizeLaw : Type 0
SizeLaw = (text : Bytes) (q : Query) (defs : List TableDef) (t : TypedQuery) → IsQuery text q → typed_query q defs ≡ Ok t → IsSmall t
