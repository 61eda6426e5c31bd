-- Groups have a place for each of their columns, and one for each of their aggregates.
use Rattle.std.proofs.Common.{◌≡◌, ◌≢◌, ◌∙◌, ℕ, ◌+◌, ◌<◌, Bool, true, false, ◌&&◌, List, [], ◌∷◌, length, refl, sym, ap, subst, arith}
use Rattle.std.specs.Prelude.{◌==◌}
use Rattle.std.specs.List.{All, list_any, enumerate_from}
use Rattle.std.proofs.lemmas.Bool.Decides.{nat_tests, Decides-eqb}
use Rattle.programs.specs.Mentions.{Label}
use Rattle.typed_trees.specs.Names.{same_column}
use Rattle.typed_trees.specs.declared.typed.Aggregate.{Aggregate}
use Rattle.typed_trees.specs.declared.typed.ColumnRef.{ColumnRef}
use Rattle.expr_steps.specs.Lowered.{Bytes}
use Rattle.program_writers.specs.Writers.{through}
use Rattle.plan_programs.specs.Sites.{Base, marked_alone, with_aggregate}
use Rattle.plan_programs.specs.Groups.{Folding, aggregate_of, aggregate_path, folding, key_of, key_path, nought_at, run_groups, runs_of, sorted}
use Rattle.lowered_stages.specs.Parts.{GroupedPlaces}
use Rattle.lowered_groups.proofs.Bases.{with_last, still_any}
use Rattle.lowered_answers.proofs.Lists.{all_none, all_more}

abbrev HasColumn : Base → ColumnRef → Type 0
HasColumn b c = list_any (λ p. same_column p.column c) b.columns ≡ true

abbrev HasAggregate : Base → ℕ → Type 0
HasAggregate b n = list_any (λ p. p.aggregate == n) b.aggregates ≡ true

same_number : (n : ℕ) → (n == n) ≡ true
same_number n = grind (arith, nat_tests)

same_itself : (c : ColumnRef) → same_column c c ≡ true
same_itself c = λ i. (Decides-eqb c.source c.source).1 refl i && (Decides-eqb c.column c.column).1 refl i

-- ---- columns

module _ (rows : Base) (zero : Label) where
  abbrev keyed : List ColumnRef → ℕ → Base → ℕ → Base
  keyed todo j groups k = (through (key_of rows zero) groups (enumerate_from j todo) k).told

  -- a column that has a place keeps one
  keeps : (todo : List ColumnRef) (j : ℕ) (groups : Base) (k : ℕ) (c : ColumnRef) → HasColumn groups c → HasColumn (keyed todo j groups k) c
  keeps [] j groups k c h = h
  keeps (x ∷ xs) j groups k c h = keeps xs (j + 1) (key_of rows zero groups (j, x) k).told (key_of rows zero groups (j, x) k).next c (still_any (λ p. same_column p.column c) groups.columns (record { column = x; path = key_path j }) h)

  all_have : (todo : List ColumnRef) (j : ℕ) (groups : Base) (k : ℕ) → All (HasColumn (keyed todo j groups k)) todo
  all_have [] j groups k = all_none (HasColumn (keyed [] j groups k))
  all_have (x ∷ xs) j groups k =
      let next = (key_of rows zero groups (j, x) k).told in
      let from = (key_of rows zero groups (j, x) k).next in
      all_more (HasColumn (keyed xs (j + 1) next from)) x xs (keeps xs (j + 1) next from x (with_last (λ p. same_column p.column x) groups.columns (record { column = x; path = key_path j }) (same_itself x))) (all_have xs (j + 1) next from)

folding_has : (b : Base) (columns : List ColumnRef) (k : ℕ) → All (HasColumn (folding b columns k).told.groups) columns
folding_has b [] k = all_none (HasColumn (folding b [] k).told.groups)
folding_has b (c ∷ cs) k =
    let rows = sorted b (c ∷ cs) k in
    let nought = nought_at rows.told.vector rows.next in
    let runs = runs_of rows.told (c ∷ cs) nought.next in
    let vector = run_groups rows.told runs.told runs.next in
    let zero = nought_at vector.told vector.next in
    all_have rows.told zero.told (c ∷ cs) 0 (marked_alone vector.told) zero.next

-- ---- aggregates

module _ (texts : List Bytes) (f : Folding) where
  abbrev aggregated : List Aggregate → ℕ → Base → ℕ → Base
  aggregated todo j groups k = (through (aggregate_of texts f) groups (enumerate_from j todo) k).told

  still_columns : (todo : List Aggregate) (j : ℕ) (groups : Base) (k : ℕ) → (aggregated todo j groups k).columns ≡ groups.columns
  still_columns [] j groups k = refl
  still_columns (x ∷ xs) j groups k = still_columns xs (j + 1) (aggregate_of texts f groups (j, x) k).told (aggregate_of texts f groups (j, x) k).next

  one_more : (j : ℕ) (name : Label) (groups : Base) → ((m : ℕ) → m < j → HasAggregate groups m) → (m : ℕ) → m < j + 1 → HasAggregate (with_aggregate name j (aggregate_path j) groups) m
  one_more j name groups h m less = by (j == m) refl
    where
      by : (t : Bool) → (j == m) ≡ t → HasAggregate (with_aggregate name j (aggregate_path j) groups) m
      by true e = with_last (λ p. p.aggregate == m) groups.aggregates (record { aggregate = j; path = aggregate_path j }) e
      by false e =
          let other : j ≢ m = λ s. let t : true ≡ false = sym (same_number j) ∙ ap (λ (l : ℕ). j == l) s ∙ e in absurd cc in
          still_any (λ p. p.aggregate == m) groups.aggregates (record { aggregate = j; path = aggregate_path j }) (h m (omega arith))

  has_each : (todo : List Aggregate) (j : ℕ) (groups : Base) (k : ℕ) → ((m : ℕ) → m < j → HasAggregate groups m) → (m : ℕ) → m < j + length todo → HasAggregate (aggregated todo j groups k) m
  has_each [] j groups k h m less = h m (omega (arith, less))
  has_each (x ∷ xs) j groups k h m less =
      let next = aggregate_of texts f groups (j, x) k in
      has_each xs (j + 1) next.told next.next (one_more j next.told.vector groups h) m (omega (arith, less))

pub grouped_places : GroupedPlaces
grouped_places texts b columns aggregates k =
    let f = folding b columns k in (
      subst (λ (l : List _). All (λ g. list_any (λ p. same_column p.column g) l ≡ true) columns) (sym (still_columns texts f.told aggregates 0 f.told.groups f.next)) (folding_has b columns k),
      (λ m less. has_each texts f.told aggregates 0 f.told.groups f.next (λ n none. absurd (omega (arith, none))) m (omega (arith, less))),
    )
