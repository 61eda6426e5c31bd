-- When a program obeys a control plan: its folds have the runs that the plan names, in the plan's order, over rows that are laid out and brought together as it says.
-- Control vectors, layouts by them and hierarchical folds are those of Voodoo, PVLDB 9(14), 2016, section 2.2; which of them a plan names is this project's own.
use Rattle.std.specs.Prelude.{◌≡◌, ℕ, nat_le, Bool, true, false, ◌&&◌, ◌||◌, not, List, [], ◌∷◌, map, filter, length, Option, Some, None}
use Rattle.std.specs.List.{list_any, list_all}
use Rattle.control_plan.specs.Plans.{PlanValue}
use Rattle.control_plan.specs.declared.choices.Grouping.{Grouping}
use Rattle.control_plan.specs.declared.choices.Grouping.TheVariants.{Sort, Partition}
use Rattle.control_vectors.specs.Controls.{Control}
use Rattle.programs.specs.declared.family.FoldOperator.{FoldOperator}
use Rattle.programs.specs.declared.family.FoldOperator.TheVariants as fold
use Rattle.programs.specs.declared.op.Statement.{Statement}
use Rattle.programs.specs.Families.{Family, family, Fold}
use Rattle.programs.specs.Mentions.{Label}
use Rattle.programs.specs.Outlines.{outlines}
use Rattle.programs.specs.Vectors.{Env}
use Rattle.typed_trees.specs.declared.typed.AggregateKind.{AggregateKind}
use Rattle.typed_trees.specs.declared.typed.AggregateKind.TheVariants as of
use Rattle.rel_plan.specs.declared.plans.RelPlan.{RelPlan}
use Rattle.sql_read.specs.declared.definition.TableDef.{TableDef}
use Rattle.attribute_origins.specs.Traces.{Origin, Traces}
use Rattle.attribute_origins.specs.Origins.{traces_of}
use Rattle.plan_obeyed.specs.Columns.{SourceColumn, choices, loaded_at, carries_some}
use Rattle.plan_obeyed.specs.Queries.{QueryParts, parts_of}
use Rattle.plan_obeyed.specs.Runs.{FoldRead, fold_by, is_range, is_one, are_groups}
use Rattle.plan_obeyed.specs.Chains.{same_fold, is_fold, ends_chain, ends_chain_at, first_fold, is_chained, folds_mark}
use Rattle.plan_obeyed.specs.Flows.{is_taken}
use Rattle.plan_obeyed.specs.Groups.{is_keyed, own_pivots, scatters_to, each_behind, are_sorted, is_partitioned, none_sorts}

-- a program, by the vectors that it makes and by where it makes the group columns
pub record Reading : Type 0 where
  pub program : List Statement
  pub made : Traces
  pub groups : List Origin

-- ---- rows are selected in the runs of `select`

abbrev pub selects_by : Traces → Control → Family → Bool
selects_by made select (Fold fold.Select f) = is_fold (λ g. is_one (is_range made select g.len) g.runs) (fold_by made (Fold fold.Select f))
selects_by made select f = true

abbrev pub is_select : Family → Bool
is_select (Fold fold.Select f) = true
is_select f = false

-- every FoldSelect has one run attribute, which is that Range; where there is WHERE, there is a FoldSelect
abbrev pub selects_in_runs : Reading → QueryParts → Control → Bool
selects_in_runs r q select = list_all (λ s. selects_by r.made select (family s.op)) r.program && (not q.has_where || list_any (λ s. is_select (family s.op)) r.program)

-- ---- values pass the folds of the levels, and a last one

-- the last folds of chains of one kind
abbrev pub chains_of : Reading → List Control → FoldOperator → List Statement
chains_of r levels kind = filter (λ s. is_fold (λ f. same_fold kind f.kind && ends_chain r.made r.groups levels f) (fold_by r.made (family s.op))) r.program

abbrev pub has_chains : Reading → List Control → FoldOperator → ℕ → Bool
has_chains r levels kind n = nat_le n (length (chains_of r levels kind))

-- an average passes as a sum and as a count
abbrev pub passes_levels : Reading → List Control → AggregateKind → Bool
passes_levels r levels of.Count = has_chains r levels fold.Sum 1
passes_levels r levels of.Sum = has_chains r levels fold.Sum 1
passes_levels r levels of.Min = has_chains r levels fold.Min 1
passes_levels r levels of.Max = has_chains r levels fold.Max 1
passes_levels r levels of.Avg = has_chains r levels fold.Sum 2

-- the greatest mark of a group, or the least, says where a group is; a total of marks counts rows, and so has to pass the levels
abbrev pub is_extreme : FoldOperator → Bool
is_extreme fold.Min = true
is_extreme fold.Max = true
is_extreme kind = false

-- no value is folded in another way: so parts of a sum are joined behind their last folds alone
abbrev pub folds_by : Reading → List Control → Label → Family → Bool
folds_by r levels n (Fold fold.Select f) = true
folds_by r levels n (Fold kind f) = is_chained r.made r.groups levels r.program n || (is_extreme kind && is_fold (folds_mark r.made r.groups) (fold_by r.made (Fold kind f)))
folds_by r levels n f = true

abbrev pub finds_groups : Reading → Statement → Bool
finds_groups r s = is_fold (folds_mark r.made r.groups) (fold_by r.made (family s.op))

-- where there is no aggregate, groups are found by one fold of the mark
abbrev pub aggregates_pass : Reading → QueryParts → List Control → List AggregateKind → Bool
aggregates_pass r q levels [] = not q.is_grouped || is_one (finds_groups r) (filter (finds_groups r) r.program)
aggregates_pass r q levels (a ∷ more) = list_all (passes_levels r levels) (a ∷ more) && list_all (λ s. folds_by r levels s.name (family s.op)) r.program

-- ---- rows are laid out by `layout`

-- a Partition whose keys, and pivots, are that Range
abbrev pub partitions_by : Reading → Control → Statement → Bool
partitions_by r layout s = is_keyed (λ k. is_range r.made layout k.len k.key) (own_pivots r.made (family s.op))

-- what the first fold of a chain reads is taken from one vector
abbrev pub takes_from : Reading → Label → FoldRead → Bool
takes_from r n f = is_taken r.made r.program n f.value.origin && list_all (λ t. is_taken r.made r.program n t.origin) (filter (carries_some r.groups) f.runs)

abbrev pub chains_take : Reading → List Control → Label → Bool
chains_take r levels n = list_all (λ s. not (ends_chain_at r.made r.groups levels s) || is_fold (takes_from r n) (first_fold r.made levels (fold_by r.made (family s.op)))) r.program

-- there is one such Partition, and one Scatter to its places, and all values that are folded and their group columns come from there
abbrev pub scattered_from : Reading → List Control → Statement → Bool
scattered_from r levels p = is_one (λ s. chains_take r levels s.name) (filter (scatters_to r.made p.name) r.program)

abbrev pub laid_out_by : Reading → List Control → Option Control → List AggregateKind → Bool
laid_out_by r levels None aggregates = true
laid_out_by r levels (Some layout) [] = true
laid_out_by r levels (Some layout) (a ∷ more) = is_one (scattered_from r levels) (filter (partitions_by r layout) r.program)

-- ---- the rows of a group are brought together

-- a fold over whole groups
abbrev pub folds_groups : Reading → Statement → Bool
folds_groups r s = is_fold (λ f. are_groups r.made r.groups f.len f.runs) (fold_by r.made (family s.op))

abbrev pub brought_by : Reading → Env → List Label → List SourceColumn → Grouping → Bool
brought_by r tables loads [] group = true
brought_by r tables loads (c ∷ cs) Sort = each_behind (folds_groups r) (are_sorted r.made r.groups) r.program
brought_by r tables loads (c ∷ cs) Partition =
    list_all (is_partitioned r.made tables r.program loads) (c ∷ cs) && each_behind (folds_groups r) (none_sorts r.made r.groups) r.program

-- ---- the whole

abbrev pub obeys_as : Env → QueryParts → PlanValue → Reading → List Label → Bool
obeys_as tables q plan r loads =
    selects_in_runs r q plan.select
    && (aggregates_pass r q plan.levels q.aggregates && (laid_out_by r plan.levels plan.layout q.aggregates && brought_by r tables loads q.groups plan.group))

abbrev pub reading : Env → QueryParts → List Statement → List Label → Reading
reading tables q program loads = record { program = program; made = traces_of (outlines tables) program; groups = map (loaded_at loads) q.groups }

-- for some way of telling which Load is which source's
abbrev pub obeys : Env → QueryParts → PlanValue → List Statement → Bool
obeys tables q plan program = list_any (λ loads. obeys_as tables q plan (reading tables q program loads) loads) (choices program q.tables)

-- a plan of a query, over some tables and their definitions
abbrev pub ObeysPlan : Env → List TableDef → RelPlan → PlanValue → List Statement → Type 0
ObeysPlan tables defs p plan program = obeys tables (parts_of defs p) plan program ≡ true
