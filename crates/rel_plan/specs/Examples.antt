-- Worked plans over two tables: t with a INTEGER and amount DECIMAL(10, 2), and u with id INTEGER and v INTEGER. Each is a theorem.
use Rattle.std.specs.Prelude.{◌≡◌, ℕ, Bool, true, false, List, [], ◌∷◌, map, codes, Some, None}
use Rattle.sql_read.specs.declared.definition.ColumnKind.{ColumnKind}
use Rattle.sql_read.specs.declared.definition.ColumnKind.TheVariants.{Integer, Decimal}
use Rattle.query_trees.specs.declared.expr.BinaryOp.TheVariants as op
use Rattle.query_trees.specs.declared.expr.Polarity.TheVariants.{Plain}
use Rattle.typed_trees.specs.declared.typed.Aggregate.{Aggregate}
use Rattle.typed_trees.specs.declared.typed.AggregateKind.TheVariants.{Count, Sum}
use Rattle.typed_trees.specs.declared.typed.ColumnRef.{ColumnRef}
use Rattle.typed_trees.specs.declared.typed.KeyRef.TheVariants as key
use Rattle.typed_trees.specs.declared.typed.PlanSource.{PlanSource}
use Rattle.typed_trees.specs.declared.typed.TypedExpr.{TypedExpr}
use Rattle.typed_trees.specs.declared.typed.TypedExpr.TheVariants as e
use Rattle.typed_trees.specs.declared.typed.TypedQuery.{TypedQuery}
use Rattle.rel_plan.specs.declared.plans.RelPlan.{RelPlan}
use Rattle.rel_plan.specs.Plans.{plan_of}
use Rattle.rel_plan.specs.Pushes.{pushed}
use Rattle.rel_plan.specs.Prunes.{column_at, pruned}

abbrev pub column : ℕ → ℕ → ColumnKind → ℕ → ℕ → TypedExpr
column source n kind width scale = e.Column (column_at source n) (record { kind = kind; width = width; scale = scale })

abbrev pub a : TypedExpr
a = column 0 0 Integer 0 0

abbrev pub amount : TypedExpr
amount = column 0 1 Decimal 10 2

abbrev pub v : TypedExpr
v = column 1 1 Integer 0 0

abbrev pub one : TypedExpr
one = e.Number 1 0

abbrev pub positive : TypedExpr → TypedExpr
positive x = e.Binary op.Greater x (e.Number 0 0)

-- a table of FROM with all its columns
abbrev pub source : ℕ → PlanSource
source n = record { table = n; columns = 0 ∷ 1 ∷ []; filter = []; join = None }

abbrev pub t : PlanSource
t = source 0

abbrev pub u : PlanSource
u = source 1

-- SELECT 1 FROM t, u
abbrev pub bare : RelPlan
bare = record { sources = t ∷ u ∷ []; filter = []; grouped = false; groups = []; aggregates = []; having = None; items = one ∷ []; order = [] }

-- ---- which queries are answered by groups

abbrev pub total : Aggregate
total = record { kind = Sum; argument = Some v }

abbrev pub rows : Aggregate
rows = record { kind = Count; argument = None }

-- SELECT 1 FROM t, u with these groups and these aggregates
abbrev pub query : List ColumnRef → List Aggregate → TypedQuery
query groups aggregates = record { sources = t ∷ u ∷ []; filter = []; groups = groups; aggregates = aggregates; having = None; items = one ∷ []; order = []; names = codes "c1" ∷ [] }

abbrev pub queries : List (TypedQuery × Bool)
queries =
    (query [] [], false)
    ∷ (query (column_at 0 0 ∷ []) [], true)
    ∷ (query [] (rows ∷ []), true)
    ∷ (query (column_at 0 0 ∷ []) (total ∷ []), true)
    ∷ []

abbrev pub GroupTable : Type 0
GroupTable = map (λ r. plan_of r.0) queries ≡ map (λ r. record bare { grouped = r.1; groups = r.0.groups; aggregates = r.0.aggregates }) queries

-- ---- pushed conditions

-- a > 0, amount IN (1, 0.50), v IS NULL; a < v; 1 = 1; a * a * a > 0
abbrev pub of_t : TypedExpr
of_t = positive a

abbrev pub also_of_t : TypedExpr
also_of_t = e.In Plain amount (one ∷ e.Number 50 2 ∷ [])

abbrev pub of_u : TypedExpr
of_u = e.IsNull Plain v

abbrev pub of_both : TypedExpr
of_both = e.Binary op.Less a v

abbrev pub of_none : TypedExpr
of_none = e.Binary op.Equal one one

abbrev pub wide : TypedExpr
wide = positive (e.Binary op.Multiply (e.Binary op.Multiply a a) a)

-- the bare plan with these conditions on t, on u, and on whole rows
abbrev pub conditions : List TypedExpr → List TypedExpr → List TypedExpr → RelPlan
conditions on_t on_u on_rows = record bare { sources = record t { filter = on_t } ∷ record u { filter = on_u } ∷ []; filter = on_rows }

abbrev pub Moves : RelPlan → RelPlan → Type 0
Moves p q = pushed p ≡ q

abbrev pub WorkedPushes : Type 0
WorkedPushes =
    -- a condition of one source moves there; of two or of none it stays
    Moves (conditions [] [] (of_t ∷ of_both ∷ of_u ∷ of_none ∷ [])) (conditions (of_t ∷ []) (of_u ∷ []) (of_both ∷ of_none ∷ []))
    -- in order, behind those that stand there
    × Moves (conditions (of_t ∷ []) [] (of_u ∷ also_of_t ∷ of_t ∷ [])) (conditions (of_t ∷ also_of_t ∷ of_t ∷ []) (of_u ∷ []) [])
    -- where one can overflow, none moves
    × Moves (conditions [] [] (of_t ∷ wide ∷ of_u ∷ [])) (conditions [] [] (of_t ∷ wide ∷ of_u ∷ []))
    × Moves (conditions [] [] (wide ∷ [])) (conditions [] [] (wide ∷ []))
    -- nothing to move
    × Moves bare bare

-- ---- pruned columns

abbrev pub column_sources : List ℕ → List ℕ → List PlanSource
column_sources of_t of_u = record t { columns = of_t } ∷ record u { columns = of_u } ∷ []

-- a plan with the columns 0 and 1 of either table, and the columns of t and of u that are left
abbrev pub named : List (RelPlan × List ℕ × List ℕ)
named =
    (bare, [], [])
    ∷ (record bare { filter = of_both ∷ [] }, 0 ∷ [], 1 ∷ [])
    ∷ (conditions (also_of_t ∷ []) [] [], 1 ∷ [], [])
    ∷ (record bare { aggregates = rows ∷ total ∷ [] }, [], 1 ∷ [])
    ∷ (record bare { having = Some of_t }, 0 ∷ [], [])
    ∷ (record bare { items = one ∷ amount ∷ [] }, 1 ∷ [], [])
    -- a join names a column on either side
    ∷ (record bare { sources = t ∷ record u { join = Some (column_at 0 1, 0) } ∷ [] }, 1 ∷ [], 0 ∷ [])
    ∷ (record bare { groups = column_at 1 0 ∷ [] }, [], 0 ∷ [])
    -- an order key that is an item names no column of its own
    ∷ (record bare { order = record { key = key.Column (column_at 1 1); descending = false } ∷ record { key = key.Item 0; descending = true } ∷ [] }, [], 1 ∷ [])
    -- columns stay in their order, and none is added
    ∷ (record bare { sources = column_sources (1 ∷ 0 ∷ []) (0 ∷ []); items = a ∷ v ∷ amount ∷ [] }, 1 ∷ 0 ∷ [], [])
    ∷ []

abbrev pub PruneTable : Type 0
PruneTable = map (λ r. map (λ s. s.columns) (pruned r.0).sources) named ≡ map (λ r. r.1 ∷ r.2 ∷ []) named
