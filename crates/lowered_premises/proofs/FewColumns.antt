-- The sources of a query's plan have no more columns than their tables, and lose some when columns are pruned.
use Rattle.std.proofs.Common.{◌≡◌, ◌∙◌, ℕ, ◌+◌, ◌≤◌, Bool, true, false, cond, List, [], ◌∷◌, length, map, get_or, ap, arith}
use Rattle.std.specs.Prelude.{All, filter}
use Rattle.std.specs.List.{enumerate_from, list_all}
use Rattle.std.proofs.lemmas.List.Elements.{All-cons, All-head, All-nil, All-tail}
use Rattle.std.proofs.lemmas.List.FromFn.{length-range_with_len}
use Rattle.std.proofs.lemmas.Option.{slice_get-get_or}
use Rattle.sql_read.specs.declared.definition.TableDef.{TableDef}
use Rattle.sql_types.specs.Catalog.{findings}
use Rattle.table_load.proofs.Limits.{few_columns}
use Rattle.typed_trees.specs.declared.typed.PlanSource.{PlanSource}
use Rattle.typed_values.specs.Bounds.{cannot_overflow}
use Rattle.query_types.specs.Names.{columns_at, columns_of}
use Rattle.typing_laws.specs.Laws.{ColumnLaw, IsTable, places_of}
use Rattle.rel_plan.specs.declared.plans.RelPlan.{RelPlan}
use Rattle.rel_plan.specs.Plans.{plan_of}
use Rattle.rel_plan.specs.Prunes.{is_named_at, pruned, pruned_source}
use Rattle.rel_plan.specs.Pushes.{moved, pushed, with_moved}
use Rattle.lowered_premises.specs.Plans.{FewColumnsLaw, HasFewColumns}

filter_few : {A : Type 0} (p : A → Bool) (xs : List A) → length (filter p xs) ≤ length xs
filter_few p [] = omega arith
filter_few {A} p (x ∷ xs) = by (p x) (filter_few p xs)
  where
    by : (b : Bool) → length (filter p xs) ≤ length xs → length (cond b (x ∷ filter p xs) (filter p xs)) ≤ length (x ∷ xs)
    by true h = omega (arith, h)
    by false h = omega (arith, h)

abbrev IsFew : PlanSource → Type 0
IsFew s = length s.columns ≤ 64

-- sources of which each gains no column
still_few : (f : ℕ × PlanSource → PlanSource) → ((n : ℕ) (s : PlanSource) → length (f (n, s)).columns ≤ length s.columns) → (n : ℕ) (sources : List PlanSource) → All IsFew sources → All IsFew (map f (enumerate_from n sources))
still_few f less n [] h = All-nil IsFew
still_few f less n (s ∷ sources) h =
    let first : IsFew (f (n, s)) = omega (arith, less n s, All-head IsFew s sources h) in
    All-cons IsFew (f (n, s)) (map f (enumerate_from (n + 1) sources)) first (still_few f less (n + 1) sources (All-tail IsFew s sources h))

pruned_few : (p : RelPlan) → HasFewColumns p → HasFewColumns (pruned p)
unfolding pruned
pruned_few p h = still_few (pruned_source p) (λ n s. filter_few (is_named_at p n) s.columns) 0 p.sources h

pushed_few : (p : RelPlan) → HasFewColumns p → HasFewColumns (pushed p)
unfolding pushed
pushed_few p h = by (list_all cannot_overflow p.filter)
  where
    by : (b : Bool) → HasFewColumns (cond b (moved p) p)
    by true = still_few (with_moved (length p.sources) p.filter) (λ n s. omega arith) 0 p.sources h
    by false = h

-- a table of the catalog with all its columns
table_few : (defs : List TableDef) (places : List ℕ) (n : ℕ) (s : PlanSource) → findings defs ≡ [] → IsTable defs places n s → IsFew s
table_few [] places n s clean is = absurd (omega (arith, is.known))
table_few (d ∷ more) places n s clean is =
    let defs : List TableDef = d ∷ more in
    let all : length s.columns ≡ length (columns_of defs s.table) = ap length is.columns ∙ length-range_with_len 0 (length (columns_of defs s.table)) in
    let at : columns_of defs s.table ≡ (get_or defs s.table d).columns = ap columns_at (slice_get-get_or defs s.table d is.known) in
    omega (arith, all, ap length at, few_columns defs s.table d clean is.known)

pub few_columns_law : ColumnLaw → FewColumnsLaw
few_columns_law columns q defs t clean typed =
    let of_catalog = columns q defs t typed in
    pruned_few (pushed (plan_of t)) (pushed_few (plan_of t) (λ k d l. table_few defs (places_of t) k (get_or t.sources k d) clean (of_catalog.sources k (get_or t.sources k d) (slice_get-get_or t.sources k d l))))
