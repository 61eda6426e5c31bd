-- A list has one stable sort.
use Rattle.std.proofs.Common.{◌≡◌, ℕ, zero, suc, ◌+◌, ◌<◌, Bool, true, false, cond, not, ◌&&◌, List, [], ◌∷◌, length, get_or, refl, sym, ap, ◌∙◌, subst, arith}
use Rattle.std.specs.Prelude.{filter}
use Rattle.std.specs.Cmp.{IsStrictWeakOrder}
use Rattle.std.specs.List.Sorted.{IsSortedBy, IsStableBy, ties}
use Rattle.std.proofs.lemmas.Bool.{false≢true}
use Rattle.std.proofs.lemmas.List.Sorted.{sorted_far}
use Rattle.sort_order.specs.Orders.{inserted, sorted_by}

module _ {X : Type 0} (lt : X → X → Bool) (o : IsStrictWeakOrder lt) where
  -- no element of a list comes before x; no element of a list comes before an earlier one
  abbrev NoneBefore : X → List X → Type 0
  NoneBefore x [] = Unit {0}
  NoneBefore x (y ∷ ys) = (lt y x ≡ false) × NoneBefore x ys

  abbrev Ascends : List X → Type 0
  Ascends [] = Unit {0}
  Ascends (x ∷ xs) = NoneBefore x xs × Ascends xs

  none_before_of : (x : X) (ys : List X) → ((k : ℕ) (d : X) → k < length ys → lt (get_or ys k d) x ≡ false) → NoneBefore x ys
  none_before_of x [] h = tt
  none_before_of x (y ∷ ys) h = (h 0 y (omega arith), none_before_of x ys (λ k d l. h (suc k) d (omega arith)))

  tail_sorted : (x : X) (xs : List X) → IsSortedBy lt (x ∷ xs) → IsSortedBy lt xs
  tail_sorted x xs up k d l h = let next : suc k + 1 ≡ suc (k + 1) = omega arith in rw next at (up (suc k) d (omega arith) (omega arith))

  ascends_of : (xs : List X) → IsSortedBy lt xs → Ascends xs
  ascends_of [] up = tt
  ascends_of (x ∷ xs) up =
      (none_before_of x xs (λ k d h. sorted_far lt o (x ∷ xs) up 0 (suc k) d (omega arith) (omega arith)), ascends_of xs (tail_sorted x xs up))

  -- ---- an element that is inserted

  none_inserted : (y x : X) (ys : List X) → lt x y ≡ false → NoneBefore y ys → NoneBefore y (inserted lt x ys)
  none_inserted y x [] h n = (h, tt)
  none_inserted y x (z ∷ zs) h n = by (lt z x) (none_inserted y x zs h n.1)
    where
      by : (b : Bool) → NoneBefore y (inserted lt x zs) → NoneBefore y (cond b (z ∷ inserted lt x zs) (x ∷ z ∷ zs))
      by true further = (n.0, further)
      by false further = (h, n)

  none_through : (x y : X) (ys : List X) → lt y x ≡ false → NoneBefore y ys → NoneBefore x ys
  none_through x y [] h n = tt
  none_through x y (z ∷ zs) h n = (o.chain z y x n.0 h, none_through x y zs h n.1)

  inserted_ascends : (x : X) (ys : List X) → Ascends ys → Ascends (inserted lt x ys)
  inserted_ascends x [] a = (tt, tt)
  inserted_ascends x (y ∷ ys) a = by (lt y x) refl (inserted_ascends x ys a.1)
    where
      by : (b : Bool) → lt y x ≡ b → Ascends (inserted lt x ys) → Ascends (cond b (y ∷ inserted lt x ys) (x ∷ y ∷ ys))
      by true e further = (none_inserted y x ys (o.one_way y x e) a.0, further)
      by false e further = ((e, none_through x y ys e a.0), a)

  sorted_ascends : (xs : List X) → Ascends (sorted_by lt xs)
  sorted_ascends [] = tt
  sorted_ascends (x ∷ xs) = inserted_ascends x (sorted_by lt xs) (sorted_ascends xs)

  -- ---- ties keep their order

  ties_are : (a b : Bool) → (not a && not b) ≡ true → (a ≡ false) × (b ≡ false)
  ties_are true b e = absurd cc
  ties_are false true e = absurd cc
  ties_are false false e = (refl, refl)

  no_both : (w x y : X) → lt y x ≡ true → ties lt w x ≡ true → ties lt w y ≡ true → ⊥
  no_both w x y l tx ty =
      let a = ties_are (lt w x) (lt x w) tx in
      let b = ties_are (lt w y) (lt y w) ty in
      false≢true (sym (o.chain y w x b.1 a.0) ∙ l)

  swapped : (w x y : X) (front rest : List X) (s t : Bool) → (s ≡ true → t ≡ true → ⊥) → cond t (y ∷ cond s (x ∷ rest) rest) (cond s (x ∷ rest) rest) ≡ cond s (x ∷ cond t (y ∷ rest) rest) (cond t (y ∷ rest) rest)
  swapped w x y front rest true true h = absurd (h refl refl)
  swapped w x y front rest true false h = refl
  swapped w x y front rest false true h = refl
  swapped w x y front rest false false h = refl

  inserted_stable : (w x : X) (ys : List X) → filter (ties lt w) (inserted lt x ys) ≡ filter (ties lt w) (x ∷ ys)
  inserted_stable w x [] = refl
  inserted_stable w x (y ∷ ys) = by (lt y x) refl (inserted_stable w x ys)
    where
      by : (b : Bool) → lt y x ≡ b → filter (ties lt w) (inserted lt x ys) ≡ filter (ties lt w) (x ∷ ys) → filter (ties lt w) (cond b (y ∷ inserted lt x ys) (x ∷ y ∷ ys)) ≡ filter (ties lt w) (x ∷ y ∷ ys)
      by true e further =
          ap (λ (l : List X). cond (ties lt w y) (y ∷ l) l) further
          ∙ swapped w x y ys (filter (ties lt w) ys) (ties lt w x) (ties lt w y) (no_both w x y e)
      by false e further = refl

  sorted_stable : (w : X) (xs : List X) → filter (ties lt w) (sorted_by lt xs) ≡ filter (ties lt w) xs
  sorted_stable w [] = refl
  sorted_stable w (x ∷ xs) = inserted_stable w x (sorted_by lt xs) ∙ ap (λ (l : List X). cond (ties lt w x) (x ∷ l) l) (sorted_stable w xs)

  -- ---- two such lists are one

  itself : (x : X) → lt x x ≡ false
  itself x = by (lt x x) refl
    where
      by : (b : Bool) → lt x x ≡ b → lt x x ≡ false
      by true e = o.one_way x x e
      by false e = e

  ties_itself : (x : X) → ties lt x x ≡ true
  ties_itself x = rw (itself x) refl

  first_found : (p : X → Bool) (y z : X) (zs rest : List X) → NoneBefore z zs → filter p zs ≡ y ∷ rest → lt y z ≡ false
  first_found p y z [] rest n e = absurd cc
  first_found p y z (v ∷ zs) rest n e = by (p v) e (λ q. first_found p y z zs rest n.1 q)
    where
      by : (b : Bool) → cond b (v ∷ filter p zs) (filter p zs) ≡ y ∷ rest → (filter p zs ≡ y ∷ rest → lt y z ≡ false) → lt y z ≡ false
      by true q further = let same : v ≡ y = cc in subst (λ (u : X). lt u z ≡ false) same n.0
      by false q further = further q

  not_after : (y z : X) (ys zs : List X) → NoneBefore z zs → filter (ties lt y) (y ∷ ys) ≡ filter (ties lt y) (z ∷ zs) → lt y z ≡ false
  not_after y z ys zs n e = by (ties lt y z) refl
    where
      front : filter (ties lt y) (z ∷ zs) ≡ y ∷ filter (ties lt y) ys
      front = sym e ∙ ap (λ (b : Bool). cond b (y ∷ filter (ties lt y) ys) (filter (ties lt y) ys)) (ties_itself y)

      by : (b : Bool) → ties lt y z ≡ b → lt y z ≡ false
      by true q = (ties_are (lt y z) (lt z y) q).0
      by false q = first_found (ties lt y) y z zs (filter (ties lt y) ys) n (ap (λ (b : Bool). cond b (z ∷ filter (ties lt y) zs) (filter (ties lt y) zs)) (sym q) ∙ front)

  same_tails : (b : Bool) (y : X) (us vs : List X) → cond b (y ∷ us) us ≡ cond b (y ∷ vs) vs → us ≡ vs
  same_tails true y us vs e = cc
  same_tails false y us vs e = e

  pub one_sort : (ys zs : List X) → Ascends ys → Ascends zs → ((w : X) → filter (ties lt w) ys ≡ filter (ties lt w) zs) → ys ≡ zs
  one_sort [] [] a b h = refl
  one_sort [] (z ∷ zs) a b h = let e : [] ≡ z ∷ filter (ties lt z) zs = h z ∙ ap (λ (t : Bool). cond t (z ∷ filter (ties lt z) zs) (filter (ties lt z) zs)) (ties_itself z) in absurd cc
  one_sort (y ∷ ys) [] a b h = let e : y ∷ filter (ties lt y) ys ≡ [] = ap (λ (t : Bool). cond t (y ∷ filter (ties lt y) ys) (filter (ties lt y) ys)) (sym (ties_itself y)) ∙ h y in absurd cc
  one_sort (y ∷ ys) (z ∷ zs) a b h =
      let up : lt y z ≡ false = not_after y z ys zs b.0 (h y) in
      let down : lt z y ≡ false = not_after z y zs ys a.0 (sym (h z)) in
      let tie : ties lt y z ≡ true = rw (up, down) refl in
      let heads : y ∷ filter (ties lt y) ys ≡ z ∷ filter (ties lt y) zs =
      ap (λ (t : Bool). cond t (y ∷ filter (ties lt y) ys) (filter (ties lt y) ys)) (sym (ties_itself y)) ∙ h y
      ∙ ap (λ (t : Bool). cond t (z ∷ filter (ties lt y) zs) (filter (ties lt y) zs)) tie in
      let same : y ≡ z = cc in
      let tails : (w : X) → filter (ties lt w) ys ≡ filter (ties lt w) zs =
      λ w. same_tails (ties lt w y) y (filter (ties lt w) ys) (filter (ties lt w) zs)
      (h w ∙ ap (λ (u : X). cond (ties lt w u) (u ∷ filter (ties lt w) zs) (filter (ties lt w) zs)) (sym same)) in
      ap (λ (u : X). u ∷ ys) same ∙ ap (λ (l : List X). z ∷ l) (one_sort ys zs a.1 b.1 tails)

  -- what a stable sort gives
  pub stable_sort : (xs ys : List X) → IsSortedBy lt ys → IsStableBy lt xs ys → ys ≡ sorted_by lt xs
  stable_sort xs ys up stable = one_sort ys (sorted_by lt xs) (ascends_of ys up) (sorted_ascends xs) (λ w. stable w ∙ sym (sorted_stable w xs))

  -- ---- the insertion sort is one
  sorted_of : (xs : List X) → Ascends xs → IsSortedBy lt xs
  sorted_of [] a k d low high = absurd (omega arith)
  sorted_of (x ∷ []) a k d low high = absurd (omega arith)
  sorted_of (x ∷ y ∷ ys) a zero d low high = a.0.0
  sorted_of (x ∷ y ∷ ys) a (suc k) d low high = let next : suc k + 1 ≡ suc (k + 1) = omega arith in rw next (sorted_of (y ∷ ys) a.1 k d (omega arith) (omega arith))

  pub insertion_sorts : (xs : List X) → IsSortedBy lt (sorted_by lt xs)
  insertion_sorts xs = sorted_of (sorted_by lt xs) (sorted_ascends xs)

  pub insertion_is_stable : (xs : List X) → IsStableBy lt xs (sorted_by lt xs)
  insertion_is_stable xs = λ w. sorted_stable w xs
