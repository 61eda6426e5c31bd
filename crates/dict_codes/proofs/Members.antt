-- The elements of a list, by its first and its others.
use Rattle.std.proofs.Common.{◌≡◌, zero, suc, List, [], ◌∷◌, ◌⊎◌, inl, inr, ⊎_elim, refl, arith}
use Rattle.std.specs.List.{Contains}
use Rattle.std.proofs.lemmas.List.Elements.{Contains-append_right, Contains-append_cases}

pub here : {X : Type 0} (x : X) (xs : List X) → Contains (x ∷ xs) x
here x xs = (0, omega arith, refl)

pub there : {X : Type 0} (x y : X) (xs : List X) → Contains xs y → Contains (x ∷ xs) y
there x y xs h = Contains-append_right (x ∷ []) xs y h

none : {X : Type 0} (y : X) → Contains [] y → ⊥
none y (k, h, e) = absurd (omega arith)

pub nothing_in : {X : Type 0} (y : X) → Contains [] y → ⊥
nothing_in y h = none y h

alone : {X : Type 0} (x y : X) → Contains (x ∷ []) y → x ≡ y
alone x y (zero, h, e) = e
alone x y (suc k, h, e) = absurd (omega arith)

-- an element of a list is its first, or one of the others
pub first_or_later : {X : Type 0} (x y : X) (xs : List X) → Contains (x ∷ xs) y → (x ≡ y) ⊎ Contains xs y
first_or_later x y xs h = ⊎_elim (λ a. inl (alone x y a)) (λ b. inr b) (Contains-append_cases (x ∷ []) xs y h)
