-- Columns, one more or a cell more.
use Rattle.std.proofs.Common.{◌≡◌, ◌∙◌, ℕ, zero, suc, ◌+◌, ◌<◌, ◌≤◌, List, [], ◌∷◌, ◌++◌, length, take, get_or, set, refl, sym, ap, arith, add-one}
use Rattle.control_vectors.specs.Slots.{Slot}
use Rattle.table_load.specs.HeldColumns.{empty_columns, with_cells}

pub empty_more : (n : ℕ) → empty_columns (n + 1) ≡ empty_columns n ++ [] ∷ []
empty_more zero = refl
empty_more (suc n) = ap empty_columns (add-one (suc n)) ∙ ap (λ l. [] ∷ l) (sym (ap empty_columns (add-one n)) ∙ empty_more n)

-- the cell of the column at place i goes to its end
pub push_at : (cs : List (List Slot)) (zs : List Slot) (i : ℕ) (d : Slot) → i < length cs → i < length zs
    → with_cells cs (take (i + 1) zs) ≡ set (with_cells cs (take i zs)) i (get_or (with_cells cs (take i zs)) i [] ++ get_or zs i d ∷ [])
push_at [] zs i d h l = absurd (omega arith)
push_at (c ∷ cs) [] i d h l = absurd (omega arith)
push_at (c ∷ cs) (z ∷ zs) zero d h l = ap (λ l. (c ++ z ∷ []) ∷ l) (with_none cs)
  where
    with_none : (cs : List (List Slot)) → with_cells cs (take 0 zs) ≡ cs
    with_none [] = refl
    with_none (x ∷ xs) = refl
push_at (c ∷ cs) (z ∷ zs) (suc i) d h l = ap (λ n. with_cells (c ∷ cs) (take n (z ∷ zs))) (add-one (suc i)) ∙ ap (λ l. (c ++ z ∷ []) ∷ l) (ap (λ n. with_cells cs (take n zs)) (sym (add-one i)) ∙ push_at cs zs i d (omega arith) (omega arith))

pub with_first : (cs : List (List Slot)) (zs : List Slot) (n : ℕ) → length cs ≤ n → with_cells cs (take n zs) ≡ with_cells cs zs
with_first [] zs n h = refl
with_first (c ∷ cs) zs zero h = absurd (omega arith)
with_first (c ∷ cs) [] (suc n) h = refl
with_first (c ∷ cs) (z ∷ zs) (suc n) h = ap (λ l. (c ++ z ∷ []) ∷ l) (with_first cs zs n (omega arith))

pub with_nothing : (cs : List (List Slot)) → with_cells cs [] ≡ cs
with_nothing [] = refl
with_nothing (c ∷ cs) = refl

pub other_default : {X : Type 0} (xs : List X) (i : ℕ) (d e : X) → i < length xs → get_or xs i d ≡ get_or xs i e
other_default [] i d e h = absurd (omega arith)
other_default (x ∷ xs) zero d e h = refl
other_default (x ∷ xs) (suc i) d e h = other_default xs i d e (omega arith)
