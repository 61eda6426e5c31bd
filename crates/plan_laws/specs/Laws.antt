-- The laws of plans: each keeps the answer of its query, be it rows or Over.
use Rattle.std.specs.Prelude.{◌≡◌, ℕ, ◌==◌, Bool, true, if◌then◌else◌, List, [], length, nat_lt, map, slice_get, slice_index_or, Some, All}
use Rattle.std.specs.List.{list_all}
use Rattle.sql_values.specs.Values.{Value, null}
use Rattle.table_load.specs.Values.{Table, value_at}
use Rattle.typed_trees.specs.declared.typed.ColumnRef.{ColumnRef}
use Rattle.typed_trees.specs.declared.typed.PlanSource.{PlanSource}
use Rattle.typed_trees.specs.declared.typed.TypedExpr.{TypedExpr}
use Rattle.typed_trees.specs.declared.typed.TypedQuery.{TypedQuery}
use Rattle.typed_trees.specs.Columns.{columns_in}
use Rattle.value_bounds.specs.Laws.{fits}
use Rattle.query_answers.specs.Answers.{Row, query_answer}
use Rattle.rel_plan.specs.declared.plans.RelPlan.{RelPlan}
use Rattle.rel_plan.specs.Plans.{plan_of}
use Rattle.rel_plan.specs.Pushes.{pushed}
use Rattle.rel_plan.specs.Prunes.{pruned}
use Rattle.plan_laws.specs.PlanAnswers.{plan_answer}

-- the plan of a query has the query's answer
abbrev pub PlanLaw : Type 0
PlanLaw = (tables : List Table) (q : TypedQuery) → plan_answer tables (plan_of q) ≡ query_answer tables q

-- columns that nothing names are no matter
abbrev pub PruneLaw : Type 0
PruneLaw = (tables : List Table) (p : RelPlan) → plan_answer tables (pruned p) ≡ plan_answer tables p

-- ---- pushed conditions

-- each column of an expression is one of these many sources
abbrev pub is_over : ℕ → TypedExpr → Bool
is_over count e = list_all (λ c. nat_lt c.0.source count) (columns_in e)

-- an expression that asks of this source alone
abbrev pub asks : ℕ → TypedExpr → Bool
asks n e = list_all (λ c. c.0.source == n) (columns_in e)

-- a row of the source in a place, and null in the columns of every other source
abbrev pub row_at : ℕ → Row → ColumnRef → Value
row_at n r c = if c.source == n then value_at c.column r else null

-- the rows of a source's table, whatever conditions it has
abbrev pub table_rows : List Table → PlanSource → List Row
table_rows tables s = slice_index_or (map (λ t. t.rows) tables) s.table []

-- in each row of each source's table, each number of a column that a condition names lies in the interval of the column's type
abbrev pub RowsFit : List Table → List PlanSource → List TypedExpr → Type 0
RowsFit tables sources parts = (n : ℕ) (s : PlanSource) → slice_get sources n ≡ Some s → All (λ r. All (λ e. fits (row_at n r) e ≡ true) parts) (table_rows tables s)

-- conditions on one source's rows may be asked of its table's rows, where none can overflow
abbrev pub PushLaw : Type 0
PushLaw = (tables : List Table) (p : RelPlan) → All (λ e. is_over (length p.sources) e ≡ true) p.filter → RowsFit tables p.sources p.filter → plan_answer tables (pushed p) ≡ plan_answer tables p
