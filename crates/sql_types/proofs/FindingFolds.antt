-- The first finding of a list, element by element.
use Rattle.std.proofs.Common.{◌≡◌, ℕ, zero, suc, ◌+◌, ◌<◌, ◌≤◌, Bool, true, false, cond, List, [], ◌∷◌, length, take, drop, get_or, map, filter, fold, refl, ap, sym, ◌∙◌, arith}
use Rattle.std.specs.Prelude.{Option, Some, ◌&&◌}
use Rattle.std.proofs.lemmas.List.{length-map, take-map}
use Rattle.std.proofs.lemmas.List.Folds.{fold-map}
use Rattle.sql_types.specs.declared.finding.Finding.{Finding}
use Rattle.sql_types.specs.Findings.{earlier, improves, first_from, noted}
use Rattle.sql_types.specs.Catalog.{with_earlier}

-- the findings of the elements that are wrong
pub first_from-picked : {X : Type 0} (is_wrong : X → Bool) (finding : X → Finding) (first : Option Finding) (xs : List X) → first_from first (map finding (filter is_wrong xs)) ≡ fold (noted is_wrong finding) first xs
first_from-picked is_wrong finding first [] = refl
first_from-picked {X = X} is_wrong finding first (x ∷ xs) = by_test (is_wrong x) refl (λ a. first_from-picked is_wrong finding a xs)
  where
    by_test : (b : Bool) → is_wrong x ≡ b → ((a : Option Finding) → first_from a (map finding (filter is_wrong xs)) ≡ fold (noted is_wrong finding) a xs) → first_from first (map finding (filter is_wrong (x ∷ xs))) ≡ fold (noted is_wrong finding) first (x ∷ xs)
    by_test true e rest = rw e (rest (earlier first (finding x)))
    by_test false e rest = rw e (rest first)

pub length-with_earlier : {X : Type 0} (xs : List X) → length (with_earlier xs) ≡ length xs
length-with_earlier [] = refl
length-with_earlier (x ∷ xs) = ap suc (length-map (with_earlier xs) (λ p. (x ∷ p.0, p.1)) ∙ length-with_earlier xs)

-- one more element, with those before it
pub with_earlier_more : {X Y : Type 0} (f : Y → List X × X → Y) (a : Y) (xs : List X) (i : ℕ) (x : X) → i < length xs → x ≡ get_or xs i x → fold f a (take (i + 1) (with_earlier xs)) ≡ f (fold f a (take i (with_earlier xs))) (take i xs, x)
with_earlier_more f a [] i x h e = absurd (omega arith)
with_earlier_more f a (y ∷ xs) zero x h e = ap (λ z. f a ([], z)) (sym e)
with_earlier_more {X = X} {Y = Y} f a (y ∷ xs) (suc i) x h e =
    let behind : List X × X → List X × X = λ p. (y ∷ p.0, p.1) in
    let g : Y → List X × X → Y = λ b p. f b (behind p) in
    let moved : (n : ℕ) → fold f (f a ([], y)) (take n (map behind (with_earlier xs))) ≡ fold g (f a ([], y)) (take n (with_earlier xs)) = λ n. ap (fold f (f a ([], y))) (take-map behind n (with_earlier xs)) ∙ fold-map f behind (f a ([], y)) (take n (with_earlier xs)) in
    let next : suc i + 1 ≡ suc (i + 1) = omega arith in
    ap (λ n. fold f a (take n (with_earlier (y ∷ xs)))) next
    ∙ moved (i + 1)
    ∙ with_earlier_more g (f a ([], y)) xs i x (omega arith) e
    ∙ ap (λ b. f b (y ∷ take i xs, x)) (sym (moved i))

-- no element at a place past the end
pub none_at : {X : Type 0} (n : ℕ) (xs : List X) → length xs ≤ n → take 1 (drop n xs) ≡ []
none_at zero [] h = refl
none_at zero (x ∷ xs) h = absurd (omega arith)
none_at (suc n) [] h = refl
none_at (suc n) (x ∷ xs) h = none_at n xs (omega arith)

-- looking at the rest only where the finding would be the first changes nothing
pub pruned : (first : Option Finding) (q : Finding) (b : Bool) → cond (improves first q && b) (Some q) first ≡ cond b (earlier first q) first
pruned first q true = by_test (improves first q)
  where
    by_test : (c : Bool) → cond (c && true) (Some q) first ≡ cond c (Some q) first
    by_test true = refl
    by_test false = refl
pruned first q false = by_test (improves first q)
  where
    by_test : (c : Bool) → cond (c && false) (Some q) first ≡ first
    by_test true = refl
    by_test false = refl
