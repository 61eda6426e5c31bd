-- Pruned plans: each source has those of its columns, in order, that the plan names.
use Rattle.std.specs.Prelude.{ℕ, Bool, ◌||◌, List, [], ◌∷◌, ◌++◌, map, filter, flat_map, Option, Some, None}
use Rattle.std.specs.List.{list_any, enumerate_from}
use Rattle.typed_trees.specs.declared.naming.Wanted.TheVariants as wanted
use Rattle.typed_trees.specs.declared.typed.ColumnRef.{ColumnRef}
use Rattle.typed_trees.specs.declared.typed.KeyRef.{KeyRef}
use Rattle.typed_trees.specs.declared.typed.KeyRef.TheVariants.{Item, Column}
use Rattle.typed_trees.specs.declared.typed.OrderKey.{OrderKey}
use Rattle.typed_trees.specs.declared.typed.PlanSource.{PlanSource}
use Rattle.typed_trees.specs.Names as trees
use Rattle.typed_trees.specs.Names.{names}
use Rattle.rel_plan.specs.declared.plans.RelPlan.{RelPlan}
use Rattle.rel_plan.specs.Plans.{expressions}

abbrev pub column_at : ℕ → ℕ → ColumnRef
column_at n column = record { source = n; column = column }

abbrev pub same_column : ColumnRef → ColumnRef → Bool
same_column = trees.same_column

-- ---- the columns that a plan names apart from its expressions

-- a join names a column to the left and one of the source that it adds
abbrev pub pair_columns : ℕ → Option (ColumnRef × ℕ) → List ColumnRef
pair_columns n None = []
pair_columns n (Some (left, own)) = left ∷ column_at n own ∷ []

abbrev pub join_columns : ℕ × PlanSource → List ColumnRef
join_columns (n, s) = pair_columns n s.join

abbrev pub columns_of_joins : List PlanSource → List ColumnRef
columns_of_joins sources = flat_map join_columns (enumerate_from 0 sources)

abbrev pub sorted_by : KeyRef → List ColumnRef
sorted_by (Item n) = []
sorted_by (Column c) = c ∷ []

abbrev pub key_columns : OrderKey → List ColumnRef
key_columns k = sorted_by k.key

abbrev pub columns_of_keys : List OrderKey → List ColumnRef
columns_of_keys = flat_map key_columns

abbrev pub columns_named : RelPlan → List ColumnRef
columns_named p = columns_of_joins p.sources ++ (p.groups ++ columns_of_keys p.order)

-- ---- what is left

-- an expression, a join, a group or an order key names the column
abbrev pub is_named : RelPlan → ColumnRef → Bool
is_named p c = list_any (names (wanted.Column c)) (expressions p) || list_any (same_column c) (columns_named p)

abbrev pub is_named_at : RelPlan → ℕ → ℕ → Bool
is_named_at p n column = is_named p (column_at n column)

abbrev pub pruned_source : RelPlan → ℕ × PlanSource → PlanSource
pruned_source p (n, s) = record s { columns = filter (is_named_at p n) s.columns }

abbrev pub pruned_sources : RelPlan → List PlanSource
pruned_sources p = map (pruned_source p) (enumerate_from 0 p.sources)

unfoldable pub pruned : RelPlan → RelPlan
pruned p = record p { sources = pruned_sources p }
