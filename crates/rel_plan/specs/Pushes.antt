-- Pushed filters: a condition that names columns of one source alone tests the rows of that source, before they are joined.
-- A condition that can overflow would then miss rows that it is to be asked of, so all of them stay where one can overflow.
use Rattle.std.specs.Prelude.{ℕ, Bool, not, ◌==◌, ◌&&◌, if◌then◌else◌, List, ◌++◌, length, map, filter, count_by}
use Rattle.std.specs.List.{list_all, range_with_len, enumerate_from}
use Rattle.typed_trees.specs.declared.naming.Wanted.TheVariants as wanted
use Rattle.typed_trees.specs.declared.typed.PlanSource.{PlanSource}
use Rattle.typed_trees.specs.declared.typed.TypedExpr.{TypedExpr}
use Rattle.typed_trees.specs.Names.{names}
use Rattle.typed_values.specs.Bounds.{cannot_overflow}
use Rattle.rel_plan.specs.declared.plans.RelPlan.{RelPlan}

-- whether a condition names a column of this source
abbrev pub names_source : ℕ → TypedExpr → Bool
names_source n e = names (wanted.ColumnOf n) e

-- of how many sources it names columns
abbrev pub sources_named : ℕ → TypedExpr → ℕ
sources_named count e = count_by (λ n. names_source n e) (range_with_len 0 count)

abbrev pub is_of_one_source : ℕ → TypedExpr → Bool
is_of_one_source count e = sources_named count e == 1

-- it moves to the one source that it names; where it names none, or several, it stays
abbrev pub moves_to : ℕ → ℕ → TypedExpr → Bool
moves_to count n e = names_source n e && is_of_one_source count e

abbrev pub stays : ℕ → TypedExpr → Bool
stays count e = not (is_of_one_source count e)

-- a source with what moves to it behind what stands there
abbrev pub with_moved : ℕ → List TypedExpr → ℕ × PlanSource → PlanSource
with_moved count parts (n, s) = record s { filter = s.filter ++ filter (moves_to count n) parts }

abbrev pub pushed_sources : List TypedExpr → List PlanSource → List PlanSource
pushed_sources parts sources = map (with_moved (length sources) parts) (enumerate_from 0 sources)

abbrev pub moved : RelPlan → RelPlan
moved p = record p { sources = pushed_sources p.filter p.sources; filter = filter (stays (length p.sources)) p.filter }

unfoldable pub pushed : RelPlan → RelPlan
pushed p = if list_all cannot_overflow p.filter then moved p else p
