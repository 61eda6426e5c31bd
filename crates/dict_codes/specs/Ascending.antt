-- The elements of a list in ascending order, each once, by an order of theirs.
use Rattle.std.specs.Prelude.{List, [], ◌∷◌, fold}
use Rattle.std.specs.declared.cmp.Ordering.{Ordering}
use Rattle.std.specs.declared.cmp.Ordering.TheVariants.{Less, Equal, Greater}

-- an element before y and what follows it, in place of it, or behind it
abbrev pub placed : {X : Type 0} → Ordering → X → X → List X → List X → List X
placed Less x y ys later = x ∷ y ∷ ys
placed Equal x y ys later = y ∷ ys
placed Greater x y ys later = y ∷ later

-- one element more among ascending ones, unless one is there that is equal to it
abbrev pub with_item : {X : Type 0} → (X → X → Ordering) → X → List X → List X
with_item cmp x [] = x ∷ []
with_item cmp x (y ∷ ys) = placed (cmp x y) x y ys (with_item cmp x ys)

abbrev pub ascending_from : {X : Type 0} → (X → X → Ordering) → List X → List X → List X
ascending_from cmp = fold (λ done x. with_item cmp x done)

-- the elements of a list, ascending, of equal ones the first alone
unfoldable pub ascending : {X : Type 0} → (X → X → Ordering) → List X → List X
ascending cmp xs = ascending_from cmp [] xs
