-- Facts about lists and tests.
use Rattle.std.proofs.Common.{◌≡◌, ℕ, suc, ◌+◌, Bool, true, false, not, ◌&&◌, List, ◌∷◌, Some, refl, sym, ap, ◌∙◌, arith}
use Rattle.std.specs.Bool.{then_some}
use Rattle.std.specs.List.{slice_get}

pub not_false : (b : Bool) → not b ≡ false → b ≡ true
not_false true e = refl
not_false false e = absurd (cc)

pub both_pass : {A : Type 0} (b c : Bool) (x : A) → b ≡ true → c ≡ true → then_some (b && c) x ≡ Some x
both_pass true true x e f = refl
both_pass true false x e f = absurd (cc)
both_pass false c x e f = absurd (cc)

pub passes : {A : Type 0} (b : Bool) (x : A) → b ≡ true → then_some b x ≡ Some x
passes true x e = refl
passes false x e = absurd (cc)

-- xs is the rest of a list behind its first k elements
abbrev pub Behind : {X : Type 0} → List X → ℕ → List X → Type 0
Behind all k xs = (j : ℕ) → slice_get xs j ≡ slice_get all (k + j)

pub behind_none : {X : Type 0} (all : List X) → Behind all 0 all
behind_none all j = let e : j ≡ 0 + j = omega arith in ap (slice_get all) e

pub behind_first : {X : Type 0} (all : List X) (k : ℕ) (x : X) (xs : List X) → Behind all k (x ∷ xs) → slice_get all k ≡ Some x
behind_first all k x xs h = let e : k ≡ k + 0 = omega arith in ap (slice_get all) e ∙ sym (h 0)

pub behind_rest : {X : Type 0} (all : List X) (k : ℕ) (x : X) (xs : List X) → Behind all k (x ∷ xs) → Behind all (suc k) xs
behind_rest all k x xs h j = let e : k + suc j ≡ suc k + j = omega arith in h (suc j) ∙ ap (slice_get all) e
