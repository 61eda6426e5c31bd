-- Numbers with their marks, as slots.
use Rattle.std.proofs.Common.{◌≡◌, ◌∙◌, ℕ, zero, suc, ◌≤◌, ℤ, Bool, true, false, List, [], ◌∷◌, ◌++◌, length, map, Some, None, refl, sym, ap, arith}
use Rattle.std.specs.List.{list_all}
use Rattle.std.specs.Prelude.{replicate}
use Rattle.struct_vectors.specs.Columns.{has_empty, marked_slots, narrow, narrow_with_empties, some_slots}
use Rattle.table_load.specs.Databases.{in_64_bits}
use Rattle.table_load.specs.HeldColumns.{slots_of}
use Rattle.table_load.specs.Vectors.{code_at, recoded}

-- a number more, behind the marks
pub slots_more : (xs : List ℤ) (marks : List Bool) (z : ℤ) → length marks ≤ length xs → slots_of (xs ++ z ∷ []) marks ≡ slots_of xs marks ++ Some z ∷ []
slots_more [] [] z h = refl
slots_more [] (m ∷ marks) z h = absurd (omega arith)
slots_more (x ∷ xs) [] z h = ap (λ l. Some x ∷ l) (slots_more xs [] z (omega arith))
slots_more (x ∷ xs) (true ∷ marks) z h = ap (λ l. Some x ∷ l) (slots_more xs marks z (omega arith))
slots_more (x ∷ xs) (false ∷ marks) z h = ap (λ l. None ∷ l) (slots_more xs marks z (omega arith))

-- or an empty slot, at the marks' end
pub slots_null : (xs : List ℤ) (marks : List Bool) (z : ℤ) → length marks ≡ length xs → slots_of (xs ++ z ∷ []) (marks ++ false ∷ []) ≡ slots_of xs marks ++ None ∷ []
slots_null [] [] z h = refl
slots_null [] (m ∷ marks) z h = absurd (omega arith)
slots_null (x ∷ xs) [] z h = absurd (omega arith)
slots_null (x ∷ xs) (true ∷ marks) z h = ap (λ l. Some x ∷ l) (slots_null xs marks z (omega arith))
slots_null (x ∷ xs) (false ∷ marks) z h = ap (λ l. None ∷ l) (slots_null xs marks z (omega arith))

-- marks that are set change nothing at the end
slots_set : (xs : List ℤ) (k : ℕ) → slots_of xs (replicate k true) ≡ slots_of xs []
slots_set [] k = refl
slots_set (x ∷ xs) zero = refl
slots_set (x ∷ xs) (suc k) = ap (λ l. Some x ∷ l) (slots_set xs k)

pub slots_marked : (xs : List ℤ) (marks : List Bool) (k : ℕ) → slots_of xs (marks ++ replicate k true) ≡ slots_of xs marks
slots_marked xs [] k = slots_set xs k
slots_marked [] (m ∷ marks) k = refl
slots_marked (x ∷ xs) (true ∷ marks) k = ap (λ l. Some x ∷ l) (slots_marked xs marks k)
slots_marked (x ∷ xs) (false ∷ marks) k = ap (λ l. None ∷ l) (slots_marked xs marks k)

pub length-slots : (xs : List ℤ) (marks : List Bool) → length (slots_of xs marks) ≡ length xs
length-slots [] marks = refl
length-slots (x ∷ xs) [] = ap suc (length-slots xs [])
length-slots (x ∷ xs) (m ∷ marks) = ap suc (length-slots xs marks)

-- ---- as a vector's column

pub all_marked : (xs : List ℤ) (marks : List Bool) → length marks ≡ length xs → slots_of xs marks ≡ marked_slots xs marks
all_marked [] [] h = refl
all_marked [] (m ∷ marks) h = absurd (omega arith)
all_marked (x ∷ xs) [] h = absurd (omega arith)
all_marked (x ∷ xs) (true ∷ marks) h = ap (λ l. Some x ∷ l) (all_marked xs marks (omega arith))
all_marked (x ∷ xs) (false ∷ marks) h = ap (λ l. None ∷ l) (all_marked xs marks (omega arith))

pub none_empty : (xs : List ℤ) (marks : List Bool) → list_all (λ mark. mark) marks ≡ true → slots_of xs marks ≡ some_slots xs
none_empty [] marks h = refl
none_empty (x ∷ xs) [] h = ap (λ l. Some x ∷ l) (none_empty xs [] h)
none_empty (x ∷ xs) (true ∷ marks) h = ap (λ l. Some x ∷ l) (none_empty xs marks h)
none_empty (x ∷ xs) (false ∷ marks) h = cc

pub some_not_empty : (xs : List ℤ) → has_empty (some_slots xs) ≡ false
some_not_empty [] = refl
some_not_empty (x ∷ xs) = some_not_empty xs

pub some_empty : (xs : List ℤ) (marks : List Bool) → length marks ≤ length xs → list_all (λ mark. mark) marks ≡ false → has_empty (slots_of xs marks) ≡ true
some_empty xs [] l h = cc
some_empty [] (m ∷ marks) l h = absurd (omega arith)
some_empty (x ∷ xs) (true ∷ marks) l h = some_empty xs marks (omega arith) h
some_empty (x ∷ xs) (false ∷ marks) l h = refl

-- ---- codes in place of texts' places

pub slots_coded : (codes xs : List ℤ) (marks : List Bool) → slots_of (map (code_at codes) xs) marks ≡ recoded codes true (slots_of xs marks)
slots_coded codes [] marks = refl
slots_coded codes (x ∷ xs) [] = ap (λ l. Some (code_at codes x) ∷ l) (slots_coded codes xs [])
slots_coded codes (x ∷ xs) (true ∷ marks) = ap (λ l. Some (code_at codes x) ∷ l) (slots_coded codes xs marks)
slots_coded codes (x ∷ xs) (false ∷ marks) = ap (λ l. None ∷ l) (slots_coded codes xs marks)

pub narrow_is : (xs : List ℤ) (marks : List Bool) → list_all (λ mark. mark) marks ≡ true → record { slots = some_slots xs; form = narrow } ≡ in_64_bits (slots_of xs marks)
narrow_is xs marks h = rw (none_empty xs marks h, some_not_empty xs) refl

pub marked_is : (xs : List ℤ) (marks all : List Bool) (k : ℕ) → length marks ≤ length xs → list_all (λ mark. mark) marks ≡ false → all ≡ marks ++ replicate k true → length all ≡ length xs
    → record { slots = marked_slots xs all; form = narrow_with_empties } ≡ in_64_bits (slots_of xs marks)
marked_is xs marks all k l h e n =
    let same : marked_slots xs all ≡ slots_of xs marks = sym (all_marked xs all n) ∙ ap (slots_of xs) e ∙ slots_marked xs marks k in
    rw (same, some_empty xs marks l h) refl
