-- Runs where they begin, and what each gives there.
use Rattle.std.proofs.Common.{◌≡◌, ◌∙◌, ℕ, zero, suc, ◌+◌, ◌-◌, ◌≤◌, List, [], ◌∷◌, ◌++◌, length, map, replicate, Option, Some, None, Ok, refl, sym, ap, subst, append-nil, arith}
use Rattle.std.specs.List.{flat_map}
use Rattle.std.proofs.lemmas.List.{length-append, length-map, length-replicate, map-append}
use Rattle.control_vectors.specs.Slots.{Slot, Cell}
use Rattle.control_vectors.specs.Folds.{fold_slots}
use Rattle.control_vectors.specs.Runs.{run_marks}
use Rattle.control_vectors.specs.declared.FoldKind.{FoldKind}
use Rattle.control_vectors.proofs.RunLaws.{length_run_marks}
use Rattle.slot_folds.specs.Folds.{fold_run}
use Rattle.held_rows.specs.Held.{Held, present}
use Rattle.held_runs.specs.Laws.{tuple_by, row_runs, run_places, run_heads, cell_at, RunLaws}
use Rattle.held_runs.proofs.Stretches.{NoneEmpty, nonempty_runs, flat_runs}

pub map-replicate : {X Y : Type 0} (f : X → Y) (n : ℕ) (x : X) → map f (replicate n x) ≡ replicate n (f x)
map-replicate f zero x = refl
map-replicate f (suc n) x = ap (λ (l : List _). f x ∷ l) (map-replicate f n x)

module _ {A : Type 0} where
  -- ---- the rows of places

  present-append : (xs ys : Held A) → present (xs ++ ys) ≡ present xs ++ present ys
  present-append [] ys = refl
  present-append (None ∷ xs) ys = present-append xs ys
  present-append (Some a ∷ xs) ys = ap (λ (l : List A). a ∷ l) (present-append xs ys)

  present_nothing : (n : ℕ) → present {A = A} (replicate n None) ≡ []
  present_nothing zero = refl
  present_nothing (suc n) = present_nothing n

-- ---- as many places as rows

module _ {A : Type 0} where
  length_places : (run : List A) → 1 ≤ length run → length (run_places run) ≡ length run
  length_places run h = omega (arith, length-replicate {A = Option (List A)} (length run - 1) None)

  pub length_heads : (rs : List (List A)) → NoneEmpty rs → length (flat_map run_places rs) ≡ length (flat_map (λ r. r) rs)
  length_heads [] h = refl
  length_heads (r ∷ rs) h =
      length-append (run_places r) (flat_map run_places rs) ∙ ((λ i. length_places r h.0 i + length_heads rs h.1 i) ∙ sym (length-append r (flat_map (λ s. s) rs)))

  -- ---- a fold at each head

  fold_place : (kind : FoldKind) (f : A → Slot) (run : List A) → fold_run kind (map f run) ≡ map (cell_at (λ r. fold_slots kind (map f r))) (run_places run)
  fold_place kind f run =
      ap (λ n. fold_slots kind (map f run) ∷ replicate (n - 1) (Ok None)) (length-map run f)
      ∙ ap (λ (l : List Cell). fold_slots kind (map f run) ∷ l) (sym (map-replicate (cell_at (λ r. fold_slots kind (map f r))) (length run - 1) None))

  pub fold_places : (kind : FoldKind) (f : A → Slot) (rs : List (List A)) → flat_map (fold_run kind) (map (map f) rs) ≡ map (cell_at (λ r. fold_slots kind (map f r))) (flat_map run_places rs)
  fold_places kind f [] = refl
  fold_places kind f (r ∷ rs) =
      (λ i. fold_place kind f r i ++ fold_places kind f rs i) ∙ sym (map-append (cell_at (λ s. fold_slots kind (map f s))) (run_places r) (flat_map run_places rs))

  -- ---- the laws of runs

  length_tuples : (fs : List (A → Slot)) (rows : List A) → length (run_marks (map (tuple_by fs) rows)) ≡ length rows
  length_tuples fs rows = length_run_marks (map (tuple_by fs) rows) ∙ length-map rows (tuple_by fs)

  pub rows_again : (fs : List (A → Slot)) (rows : List A) → flat_map (λ run. run) (row_runs fs rows) ≡ rows
  rows_again fs rows = flat_runs (run_marks (map (tuple_by fs) rows)) rows (length_tuples fs rows)

  pub none_empty : (fs : List (A → Slot)) (rows : List A) → NoneEmpty (row_runs fs rows)
  none_empty fs rows = nonempty_runs (run_marks (map (tuple_by fs) rows)) rows

  first_nonempty : (rs : List (List A)) (run : List A) (others : List (List A)) → NoneEmpty rs → rs ≡ run ∷ others → 1 ≤ length run
  first_nonempty [] run others h e = absurd cc
  first_nonempty (r ∷ rs) run others h e = let same : r ≡ run = cc in subst (λ (l : List A). 1 ≤ length l) same h.0

  present_places : (rs : List (List A)) → present (flat_map run_places rs) ≡ rs
  present_places [] = refl
  present_places (r ∷ rs) =
      ap (λ (l : List (List A)). r ∷ l) (present-append (replicate (length r - 1) None) (flat_map run_places rs) ∙ (λ i. present_nothing {A = List A} (length r - 1) i ++ present_places rs i))

  present_heads : (n : ℕ) (rs : List (List A)) → present (run_heads n rs) ≡ rs
  present_heads n rs =
      present-append (flat_map run_places rs) (replicate (n - length (flat_map run_places rs)) None)
      ∙ ((λ i. present_places rs i ++ present_nothing {A = List A} (n - length (flat_map run_places rs)) i) ∙ append-nil rs)

pub run_laws : (A : Type 0) → RunLaws A
run_laws A = record {
  nonempty = λ fs rows run others e. first_nonempty (row_runs fs rows) run others (none_empty fs rows) e;
  rows = λ fs rows. rows_again fs rows;
  heads = λ n rs. present_heads n rs;
}
