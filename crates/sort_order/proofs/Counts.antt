-- How many elements pass a test.
use Rattle.std.proofs.Common.{◌≡◌, ℕ, zero, suc, ◌≤◌, Bool, true, false, List, [], ◌∷◌, length, refl, sym, ap, ◌∙◌, arith}
use Rattle.std.specs.Prelude.{count_by, filter}
use Rattle.std.specs.List.Sorted.{IsPartitionPoint}
use Rattle.std.proofs.lemmas.List.Sums.{length-filter}

pub count_yes : {X : Type 0} (p : X → Bool) (x : X) (xs : List X) → p x ≡ true → count_by p (x ∷ xs) ≡ suc (count_by p xs)
count_yes p x xs e =
    let one : length (filter p (x ∷ xs)) ≡ suc (length (filter p xs)) = rw e refl in
    sym (length-filter p (x ∷ xs)) ∙ one ∙ ap suc (length-filter p xs)

pub count_no : {X : Type 0} (p : X → Bool) (x : X) (xs : List X) → p x ≡ false → count_by p (x ∷ xs) ≡ count_by p xs
count_no p x xs e =
    let none : length (filter p (x ∷ xs)) ≡ length (filter p xs) = rw e refl in
    sym (length-filter p (x ∷ xs)) ∙ none ∙ length-filter p xs

-- the elements that pass come first
pub count_front : {X : Type 0} (p : X → Bool) (xs : List X) (i : ℕ) → i ≤ length xs → IsPartitionPoint (λ y. p y ≡ true) (λ y. p y ≡ false) xs i → count_by p xs ≡ i
count_front p [] i h w = omega arith
count_front p (x ∷ xs) zero h w =
    count_no p x xs (w.1 0 x (omega arith) (omega arith)) ∙ count_front p xs zero (omega arith) (λ k d l m. absurd (omega arith), λ k d l m. w.1 (suc k) d (omega arith) (omega arith))
count_front p (x ∷ xs) (suc i) h w =
    count_yes p x xs (w.0 0 x (omega arith) (omega arith)) ∙ ap suc (count_front p xs i (omega arith) (λ k d l m. w.0 (suc k) d (omega arith) (omega arith), λ k d l m. w.1 (suc k) d (omega arith) (omega arith)))
