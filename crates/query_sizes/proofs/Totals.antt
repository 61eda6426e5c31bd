-- The total of a function over a list, element by element.
use Rattle.std.proofs.Common.{◌≡◌, ℕ, ◌+◌, List, [], ◌∷◌, ◌++◌, map, fold, refl, ap, arith}
use Rattle.std.specs.Prelude.{sum_by}

abbrev pub total : {X : Type 0} → (X → ℕ) → List X → ℕ
total f [] = 0
total f (x ∷ xs) = f x + total f xs

pub total-append : {X : Type 0} (f : X → ℕ) (xs ys : List X) → total f (xs ++ ys) ≡ total f xs + total f ys
total-append f [] ys = omega arith
total-append f (x ∷ xs) ys = omega (arith, total-append f xs ys)

-- one more at the end
pub total_more : {X : Type 0} (f : X → ℕ) (xs : List X) (x : X) → total f (xs ++ x ∷ []) ≡ total f xs + f x
total_more f xs x = omega (arith, total-append f xs (x ∷ []))

pub total-map : {X : Type 0} (f : X → ℕ) (xs : List X) → total (λ n. n) (map f xs) ≡ total f xs
total-map f [] = refl
total-map f (x ∷ xs) = ap (λ n. f x + n) (total-map f xs)

fold-total : {X : Type 0} (f : X → ℕ) (a : ℕ) (xs : List X) → fold (λ a x. a + f x) a xs ≡ a + total f xs
fold-total f a [] = omega arith
fold-total f a (x ∷ xs) = omega (arith, fold-total f (a + f x) xs)

pub sum_by-total : {X : Type 0} (f : X → ℕ) (xs : List X) → sum_by f xs ≡ total f xs
sum_by-total f xs = omega (arith, fold-total f 0 xs)
