-- Lists of what is told, one more for each of some things; and rows that are sorted beside what is made of them.
use Rattle.std.proofs.Common.{◌≡◌, ◌∙◌, ℕ, zero, suc, ◌+◌, ◌-◌, Bool, true, false, cond, ◌&&◌, List, [], ◌∷◌, ◌++◌, length, map, replicate, refl, sym, ap, subst, arith, Some, None, Result, Ok, Err, is_ok}
use Rattle.std.specs.List.{All, list_all}
use Rattle.std.specs.Prelude.{slice_get}
use Rattle.std.proofs.lemmas.List.{length-map}
use Rattle.std.proofs.lemmas.List.Elements.{All-head, All-tail}
use Rattle.control_vectors.specs.Slots.{Slot}
use Rattle.control_vectors.specs.declared.Over.{Over}
use Rattle.sort_order.specs.Orders.{inserted, sorted_by}
use Rattle.query_answers.specs.Overs.{each}
use Rattle.held_rows.specs.Held.{column, packed}
use Rattle.lowered_kept.proofs.Bound.{bound}

-- ---- one more for each

module _ {X Y : Type 0} (make : ℕ → Y → X) where
  abbrev pub more : ℕ → List Y → List X → List X
  more j [] xs = xs
  more j (y ∷ ys) xs = more (j + 1) ys (make j y ∷ xs)

  pub more_long : (j : ℕ) (ys : List Y) (xs : List X) → length (more j ys xs) ≡ length ys + length xs
  more_long j [] xs = omega arith
  more_long j (y ∷ ys) xs = omega (arith, more_long (j + 1) ys (make j y ∷ xs))

  module _ (P : X → Type 0) where
    abbrev pub EachFrom : ℕ → List Y → Type 0
    EachFrom j [] = Unit {0}
    EachFrom j (y ∷ ys) = P (make j y) × EachFrom (j + 1) ys

    pub more_old : (j : ℕ) (ys : List Y) (xs : List X) → All P (more j ys xs) → All P xs
    more_old j [] xs h = h
    more_old j (y ∷ ys) xs h = All-tail P (make j y) xs (more_old (j + 1) ys (make j y ∷ xs) h)

    pub more_new : (j : ℕ) (ys : List Y) (xs : List X) → All P (more j ys xs) → EachFrom j ys
    more_new j [] xs h = tt
    more_new j (y ∷ ys) xs h = (All-head P (make j y) xs (more_old (j + 1) ys (make j y ∷ xs) h), more_new (j + 1) ys (make j y ∷ xs) h)

    pub each_at : (j n : ℕ) (ys : List Y) (y : Y) → EachFrom j ys → slice_get ys n ≡ Some y → P (make (j + n) y)
    each_at j n [] y h e = absurd cc
    each_at j zero (z ∷ ys) y h e =
        let same : z ≡ y = let f : Some z ≡ Some y = e in cc in
        let here : j ≡ j + zero = omega arith in
        subst (λ (i : ℕ). P (make i y)) here (subst (λ (x : Y). P (make j x)) same h.0)
    each_at j (suc n) (z ∷ ys) y h e =
        let there : (j + 1) + n ≡ j + suc n = omega arith in
        subst (λ (i : ℕ). P (make i y)) there (each_at (j + 1) n ys y h.1 e)

-- ---- Over on one of some rows

ok_bound : {X Y : Type 0} (r : Result X Over) (f : X → Result Y Over) (b : Bool) → ((x : X) → is_ok (f x) ≡ b) → is_ok (bound r f) ≡ (is_ok r && b)
ok_bound (Ok x) f b h = h x
ok_bound (Err e) f b h = refl

pub ok_each : {X Y : Type 0} (f : X → Result Y Over) (xs : List X) → is_ok (each f xs) ≡ list_all (λ x. is_ok (f x)) xs
ok_each f [] = refl
ok_each f (x ∷ xs) =
    ok_bound (f x) (λ y. bound (each f xs) (λ ys. Ok (y ∷ ys))) (is_ok (each f xs)) (λ y. ok_last y (each f xs))
    ∙ ap (λ (b : Bool). is_ok (f x) && b) (ok_each f xs)
  where
    ok_last : {Y : Type 0} (y : Y) (r : Result (List Y) Over) → is_ok (bound r (λ ys. Ok (y ∷ ys))) ≡ is_ok r
    ok_last y (Ok ys) = refl
    ok_last y (Err e) = refl

-- ---- the same of each two

module _ {X Y : Type 0} (test : X → Y → Bool) where
  nothing_left : (ys : List Y) → list_all (λ y. true) ys ≡ true
  nothing_left [] = refl
  nothing_left (y ∷ ys) = nothing_left ys

  four : (a b c d : Bool) → ((a && b) && (c && d)) ≡ ((a && c) && (b && d))
  four true true c d = refl
  four true false true d = refl
  four true false false d = refl
  four false b c d = refl

  all_both : (p q : Y → Bool) (ys : List Y) → list_all (λ y. p y && q y) ys ≡ (list_all p ys && list_all q ys)
  all_both p q [] = refl
  all_both p q (y ∷ ys) = ap (λ (b : Bool). (p y && q y) && b) (all_both p q ys) ∙ four (p y) (q y) (list_all p ys) (list_all q ys)

  pub all_turned : (xs : List X) (ys : List Y) → list_all (λ x. list_all (test x) ys) xs ≡ list_all (λ y. list_all (λ x. test x y) xs) ys
  all_turned [] ys = sym (nothing_left ys)
  all_turned (x ∷ xs) ys = ap (λ (b : Bool). list_all (test x) ys && b) (all_turned xs ys) ∙ sym (all_both (test x) (λ y. list_all (λ z. test z y) xs) ys)

-- ---- rows, and beside each what is made of it

module _ {X Y : Type 0} (R : X → Y → Type 0) where
  abbrev pub Pairs : List X → List Y → Type 0
  Pairs [] [] = Unit {0}
  Pairs [] (y ∷ ys) = ⊥
  Pairs (x ∷ xs) [] = ⊥
  Pairs (x ∷ xs) (y ∷ ys) = R x y × Pairs xs ys

  pub pairs_long : (xs : List X) (ys : List Y) → Pairs xs ys → length xs ≡ length ys
  pairs_long [] [] p = refl
  pairs_long [] (y ∷ ys) p = absurd p
  pairs_long (x ∷ xs) [] p = absurd p
  pairs_long (x ∷ xs) (y ∷ ys) p = ap suc (pairs_long xs ys p.1)

  -- sorted by what compares alike
  module _ (before : X → X → Bool) (earlier : Y → Y → Bool) (alike : (x z : X) (y w : Y) → R x y → R z w → before x z ≡ earlier y w) where
    inserted_pairs : (x : X) (y : Y) (xs : List X) (ys : List Y) → R x y → Pairs xs ys → Pairs (inserted before x xs) (inserted earlier y ys)
    inserted_pairs x y [] [] r p = (r, tt)
    inserted_pairs x y [] (w ∷ ys) r p = absurd p
    inserted_pairs x y (z ∷ xs) [] r p = absurd p
    inserted_pairs x y (z ∷ xs) (w ∷ ys) r p =
        subst (λ (t : Bool). Pairs (cond t (z ∷ inserted before x xs) (x ∷ z ∷ xs)) (cond (earlier w y) (w ∷ inserted earlier y ys) (y ∷ w ∷ ys))) (sym (alike z x w y p.0 r))
        (by (earlier w y) (inserted_pairs x y xs ys r p.1))
      where
        by : (t : Bool) → Pairs (inserted before x xs) (inserted earlier y ys) → Pairs (cond t (z ∷ inserted before x xs) (x ∷ z ∷ xs)) (cond t (w ∷ inserted earlier y ys) (y ∷ w ∷ ys))
        by true h = (p.0, h)
        by false h = (r, p)

    pub sorted_pairs : (xs : List X) (ys : List Y) → Pairs xs ys → Pairs (sorted_by before xs) (sorted_by earlier ys)
    sorted_pairs [] [] p = tt
    sorted_pairs [] (y ∷ ys) p = absurd p
    sorted_pairs (x ∷ xs) [] p = absurd p
    sorted_pairs (x ∷ xs) (y ∷ ys) p = inserted_pairs x y (sorted_by before xs) (sorted_by earlier ys) p.0 (sorted_pairs xs ys p.1)

  -- at the first of n places, what tells the same
  module _ {Z : Type 0} (f : X → Slot) (view : Y → Z) (g : Z → Slot) (same : (x : X) (y : Y) → R x y → f x ≡ g (view y)) where
    none_told : (m : ℕ) → column f (replicate m None) ≡ column g (replicate m None)
    none_told zero = refl
    none_told (suc m) = ap (λ (l : List Slot). None ∷ l) (none_told m)

    told_same : (m : ℕ) (xs : List X) (ys : List Y) → Pairs xs ys → column f (map (λ x. Some x) xs ++ replicate m None) ≡ column g (map (λ z. Some z) (map view ys) ++ replicate m None)
    told_same m [] [] p = none_told m
    told_same m [] (y ∷ ys) p = absurd p
    told_same m (x ∷ xs) [] p = absurd p
    told_same m (x ∷ xs) (y ∷ ys) p =
        let first : f x ≡ g (view y) = same x y p.0 in
        let others = told_same m xs ys p.1 in
        λ i. first i ∷ others i

    pub packed_same : (n : ℕ) (xs : List X) (ys : List Y) → Pairs xs ys → column f (packed n xs) ≡ column g (packed n (map view ys))
    packed_same n xs ys p =
        told_same (n - length xs) xs ys p
        ∙ ap (λ (m : ℕ). column g (map (λ z. Some z) (map view ys) ++ replicate (n - m) None)) (pairs_long xs ys p ∙ sym (length-map ys view))

-- what each gives, where each gives something
module _ {X Y : Type 0} (f : X → Result Y Over) (Q : X → Type 0) where
  abbrev pub Gave : X → Y → Type 0
  Gave x y = (f x ≡ Ok y) × Q x

  pub each_pairs : (xs : List X) (ys : List Y) → All Q xs → each f xs ≡ Ok ys → Pairs Gave xs ys
  each_pairs [] [] h e = tt
  each_pairs [] (y ∷ ys) h e = absurd (let no : Ok [] ≡ Ok (y ∷ ys) = e in cc)
  each_pairs (x ∷ xs) ys h e = by (f x) refl (each f xs) refl ys e (λ zs. each_pairs xs zs (All-tail Q x xs h))
    where
      by : (r : Result Y Over) → f x ≡ r → (s : Result (List Y) Over) → each f xs ≡ s → (ys : List Y) → bound r (λ y. bound s (λ zs. Ok (y ∷ zs))) ≡ Ok ys
          → ((zs : List Y) → each f xs ≡ Ok zs → Pairs Gave xs zs) → Pairs Gave (x ∷ xs) ys
      by (Err e) first s rest ys g further = absurd cc
      by (Ok y) first (Err e) rest ys g further = absurd cc
      by (Ok y) first (Ok zs) rest [] g further = absurd (let no : Ok (y ∷ zs) ≡ Ok [] = g in cc)
      by (Ok y) first (Ok zs) rest (w ∷ ws) g further =
          let head : y ≡ w = let t : Ok (y ∷ zs) ≡ Ok (w ∷ ws) = g in cc in
          let tail : zs ≡ ws = let t : Ok (y ∷ zs) ≡ Ok (w ∷ ws) = g in cc in
          ((first ∙ ap (λ (v : Y). Ok v) head, All-head Q x xs h), subst (Pairs Gave xs) tail (further zs rest))
