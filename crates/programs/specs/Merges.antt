-- Two ascending lists as one.
use Rattle.std.specs.Prelude.{◌≡◌, ℕ, ◌<◌, ◌≤◌, length, slice_index_or, Bool, true, false, List, [], ◌∷◌, if◌then◌else◌}
use Rattle.key_paths.specs.Substructures.{is_before}

-- x, which goes before its rest, in its place among others
abbrev pub entered : {A : Type 0} → (A → A → Bool) → A → (List A → List A) → List A → List A
entered before x rest [] = x ∷ rest []
entered before x rest (y ∷ ys) = if before y x then y ∷ entered before x rest ys else x ∷ rest (y ∷ ys)

-- the items of both; of two that are equal, the first list's goes first
abbrev pub merged : {A : Type 0} → (A → A → Bool) → List A → List A → List A
merged before [] ys = ys
merged before (x ∷ xs) ys = entered before x (merged before xs) ys

-- ---- which of two lists of paths gives the next one
-- a path is left in one of them
abbrev pub LeavesSome : ℕ → List (List ℕ) → ℕ → List (List ℕ) → Type 0
LeavesSome i ps j qs = length ps ≤ i → j < length qs

-- the second, where its next path comes before the first's, or the first has none
abbrev pub TakesSecond : ℕ → List (List ℕ) → ℕ → List (List ℕ) → Bool → Type 0
TakesSecond i ps j qs true = (j < length qs) × (i < length ps → is_before (slice_index_or qs j []) (slice_index_or ps i []) ≡ true)
TakesSecond i ps j qs false = (i < length ps) × (j < length qs → is_before (slice_index_or qs j []) (slice_index_or ps i []) ≡ false)
