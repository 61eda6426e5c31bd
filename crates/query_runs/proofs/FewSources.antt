-- A plan that is pushed and pruned has as many sources, and no source has more columns.
use Rattle.std.proofs.Common.{◌≡◌, ◌∙◌, ℕ, ◌+◌, ◌≤◌, Bool, true, false, if◌then◌else◌, List, [], ◌∷◌, length, map, refl, arith}
use Rattle.std.specs.Prelude.{All}
use Rattle.std.specs.List.{enumerate_from, list_all}
use Rattle.std.proofs.lemmas.List.{length-map}
use Rattle.std.proofs.lemmas.List.Elements.{All-nil, All-cons}
use Rattle.std.proofs.lemmas.List.FromFn.{length-enumerate_from}
use Rattle.std.proofs.lemmas.List.Sums.{length-filter, count_by-le-length}
use Rattle.typed_trees.specs.declared.typed.PlanSource.{PlanSource}
use Rattle.typed_values.specs.Bounds.{cannot_overflow}
use Rattle.rel_plan.specs.declared.plans.RelPlan.{RelPlan}
use Rattle.rel_plan.specs.Prunes.{is_named_at, pruned_source, pruned}
use Rattle.rel_plan.specs.Pushes.{with_moved, moved, pushed}

-- each source by its place
abbrev changed : (ℕ × PlanSource → PlanSource) → List PlanSource → List PlanSource
changed f sources = map f (enumerate_from 0 sources)

as_many : (f : ℕ × PlanSource → PlanSource) (sources : List PlanSource) → length (changed f sources) ≡ length sources
as_many f sources = length-map (enumerate_from 0 sources) f ∙ length-enumerate_from 0 sources

-- sources with at most 64 columns each
abbrev pub Few : List PlanSource → Type 0
Few [] = Unit {0}
Few (s ∷ sources) = (length s.columns ≤ 64) × Few sources

abbrev is_few : PlanSource → Type 0
is_few s = length s.columns ≤ 64

pub all_few : (sources : List PlanSource) → Few sources → All is_few sources
all_few [] h = All-nil is_few
all_few (s ∷ sources) h = All-cons is_few s sources h.0 (all_few sources h.1)

few_changed : (f : ℕ × PlanSource → PlanSource) → ((n : ℕ) (s : PlanSource) → length (f (n, s)).columns ≤ length s.columns) → (k : ℕ) (sources : List PlanSource) → Few sources → Few (map f (enumerate_from k sources))
few_changed f no_more k [] h = tt
few_changed f no_more k (s ∷ sources) h = (omega (arith, no_more k s, h.0), few_changed f no_more (k + 1) sources h.1)

-- ---- pushed

record Kept (p q : RelPlan) : Type 0 where
  count : length q.sources ≡ length p.sources
  few : Few p.sources → Few q.sources
  items : q.items ≡ p.items

moved_kept : (p : RelPlan) → Kept p (moved p)
moved_kept p = record {
  count = as_many (with_moved (length p.sources) p.filter) p.sources;
  few = few_changed (with_moved (length p.sources) p.filter) (λ n s. omega arith) 0 p.sources;
  items = refl;
}

pushed_if : (b : Bool) (p : RelPlan) → Kept p (if b then moved p else p)
pushed_if true p = moved_kept p
pushed_if false p = record { count = refl; few = λ h. h; items = refl }

pushed_kept : (p : RelPlan) → Kept p (pushed p)
unfolding pushed
pushed_kept p = pushed_if (list_all cannot_overflow p.filter) p

-- ---- pruned

fewer_columns : (p : RelPlan) (n : ℕ) (s : PlanSource) → length (pruned_source p (n, s)).columns ≤ length s.columns
fewer_columns p n s = omega (arith, length-filter (is_named_at p n) s.columns, count_by-le-length (is_named_at p n) s.columns)

pruned_kept : (p : RelPlan) → Kept p (pruned p)
unfolding pruned
pruned_kept p = record {
  count = as_many (pruned_source p) p.sources;
  few = few_changed (pruned_source p) (fewer_columns p) 0 p.sources;
  items = refl;
}

-- ---- both

pub same_count : (p : RelPlan) → length (pruned (pushed p)).sources ≡ length p.sources
same_count p = (pruned_kept (pushed p)).count ∙ (pushed_kept p).count

pub still_few : (p : RelPlan) → Few p.sources → Few (pruned (pushed p)).sources
still_few p h = (pruned_kept (pushed p)).few ((pushed_kept p).few h)

pub same_items : (p : RelPlan) → (pruned (pushed p)).items ≡ p.items
same_items p = (pruned_kept (pushed p)).items ∙ (pushed_kept p).items
