-- A fold over one run of all places.
use Rattle.std.proofs.Common.{◌≡◌, ◌∙◌, ℕ, Bool, true, List, [], ◌∷◌, length, map, replicate, get_or, Some, None, Ok, refl, sym, ap, append-nil, arith}
use Rattle.std.specs.List.{flat_map}
use Rattle.std.proofs.lemmas.List.{length-map, length-replicate, get_or-replicate}
use Rattle.std.proofs.lemmas.List.FromFn.{fill_by_all}
use Rattle.control_vectors.specs.Slots.{Slot, numbers}
use Rattle.control_vectors.specs.Folds.{fold_slots, fold_numbers}
use Rattle.control_vectors.specs.Runs.{Tuple, run_marks, runs, side_by_side}
use Rattle.control_vectors.specs.declared.FoldKind.{FoldKind}
use Rattle.slot_folds.specs.Folds.{fold_run, folded}
use Rattle.held_rows.specs.Held.{Held, present, at, column}
use Rattle.held_runs.specs.Laws.{one_cell, WholeFoldLaw}
use Rattle.held_runs.proofs.Marks.{marks, marks_are, same_changes}
use Rattle.held_runs.proofs.Stretches.{one_run}

-- one tuple at each place
one_tuple : (n : ℕ) (x : Slot) → side_by_side n (replicate n x ∷ []) ≡ replicate n (x ∷ [])
one_tuple n x =
    sym (fill_by_all (λ i. get_or (replicate n x) i None ∷ []) (replicate n (x ∷ [])) n [] (length-replicate n (x ∷ []))
    (λ k h. get_or-replicate n k (x ∷ []) [] h ∙ ap (λ (s : Slot). s ∷ []) (sym (get_or-replicate n k x None h))))

module _ {A : Type 0} where
  -- an empty place adds nothing
  numbers_of : (f : A → Slot) (held : Held A) → numbers (column f held) ≡ numbers (map f (present held))
  numbers_of f [] = refl
  numbers_of f (None ∷ held) = numbers_of f held
  numbers_of f (Some a ∷ held) = by (f a) (numbers_of f held)
    where
      by : (s : Slot) → numbers (column f held) ≡ numbers (map f (present held)) → numbers (s ∷ column f held) ≡ numbers (s ∷ map f (present held))
      by None e = e
      by (Some z) e = ap (λ (l : List _). z ∷ l) e

whole : (kind : FoldKind) (xs : List Slot) (x : Slot) → folded kind (marks (replicate (length xs) (x ∷ []))) xs ≡ one_cell (length xs) (fold_slots kind xs)
whole kind [] x = refl
whole kind (y ∷ ys) x =
    ap (λ (ms : List Bool). flat_map (fold_run kind) (runs (true ∷ ms) (y ∷ ys))) (same_changes (length ys) (x ∷ []))
    ∙ (ap (flat_map (fold_run kind)) (one_run y ys) ∙ (append-nil (fold_run kind (y ∷ ys)) ∙ ap (λ k. fold_slots kind (y ∷ ys) ∷ replicate k (Ok None)) (omega arith)))

pub whole_fold_law : (A : Type 0) → WholeFoldLaw A
whole_fold_law A kind f x held =
    let n = length held in
    let long : length (column f held) ≡ n = length-map held (at f) in
    ap (λ (ts : List Tuple). folded kind (run_marks ts) (column f held)) (one_tuple n x)
    ∙ (ap (λ (ms : List Bool). folded kind ms (column f held)) (marks_are (replicate n (x ∷ [])))
    ∙ (ap (λ k. folded kind (marks (replicate k (x ∷ []))) (column f held)) (sym long)
    ∙ (whole kind (column f held) x ∙ (λ i. one_cell (long i) (fold_numbers kind (numbers_of f held i))))))
