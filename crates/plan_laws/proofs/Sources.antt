-- Sources, each changed in its place: as many, of the same tables, with the same joins.
use Rattle.std.proofs.Common.{◌≡◌, ◌∙◌, ℕ, zero, suc, ◌+◌, List, [], ◌∷◌, ◌++◌, length, map, get_or, Some, refl, ap, subst, arith}
use Rattle.std.specs.Prelude.{All, flat_map, slice_get}
use Rattle.std.specs.List.{enumerate_from}
use Rattle.std.proofs.lemmas.Option.{get_or_from_slice_get, slice_get-get_or, slice_get_within}
use Rattle.typed_trees.specs.declared.typed.PlanSource.{PlanSource}
use Rattle.typed_trees.proofs.Inversions.{some_same}
use Rattle.rel_plan.specs.Prunes.{pair_columns, join_columns}

-- ---- lists by their places

module _ {X : Type 0} (P : X → Type 0) (xs : List X) where
  pub at_place : (n : ℕ) (x : X) → All P xs → slice_get xs n ≡ Some x → P x
  at_place n x h e = subst P (get_or_from_slice_get xs n x x e) (h n x (slice_get_within xs n x e))

  pub by_places : ((n : ℕ) (x : X) → slice_get xs n ≡ Some x → P x) → All P xs
  by_places h = λ n d l. h n (get_or xs n d) (slice_get-get_or xs n d l)

-- ---- sources that are changed

module _ (f : ℕ × PlanSource → PlanSource) where
  abbrev pub changed : ℕ → List PlanSource → List PlanSource
  changed k sources = map f (enumerate_from k sources)

  from_place : (k : ℕ) (sources : List PlanSource) (n : ℕ) (t : PlanSource) → slice_get (changed k sources) n ≡ Some t → (s : PlanSource) × (slice_get sources n ≡ Some s) × (f (k + n, s) ≡ t)
  from_place k [] n t e = absurd (cc)
  from_place k (s ∷ sources) zero t e = let here : k + 0 ≡ k = omega arith in (s, refl, ap (λ (m : ℕ). f (m, s)) here ∙ some_same (f (k, s)) t e)
  from_place k (s ∷ sources) (suc n) t e =
      let found = from_place (k + 1) sources n t e in
      let there : k + suc n ≡ k + 1 + n = omega arith in
      (found.0, found.1, ap (λ (m : ℕ). f (m, found.0)) there ∙ found.2)

  pub source_before : (sources : List PlanSource) (n : ℕ) (t : PlanSource) → slice_get (changed 0 sources) n ≡ Some t → (s : PlanSource) × (slice_get sources n ≡ Some s) × (f (n, s) ≡ t)
  source_before sources n t e =
      let found = from_place 0 sources n t e in
      let there : n ≡ 0 + n = omega arith in
      (found.0, found.1, ap (λ (m : ℕ). f (m, found.0)) there ∙ found.2)

  pub as_many : (k : ℕ) (sources : List PlanSource) → length (changed k sources) ≡ length sources
  as_many k [] = refl
  as_many k (s ∷ sources) = ap suc (as_many (k + 1) sources)

  pub as_tables : ((n : ℕ) (s : PlanSource) → (f (n, s)).table ≡ s.table) → (k : ℕ) (sources : List PlanSource) → map (λ s. s.table) (changed k sources) ≡ map (λ s. s.table) sources
  as_tables same k [] = refl
  as_tables same k (s ∷ sources) = λ i. same k s i ∷ as_tables same (k + 1) sources i

  pub as_joins : ((n : ℕ) (s : PlanSource) → (f (n, s)).join ≡ s.join) → (k : ℕ) (sources : List PlanSource) → flat_map join_columns (enumerate_from k (changed k sources)) ≡ flat_map join_columns (enumerate_from k sources)
  as_joins same k [] = refl
  as_joins same k (s ∷ sources) = λ i. pair_columns k (same k s i) ++ as_joins same (k + 1) sources i
