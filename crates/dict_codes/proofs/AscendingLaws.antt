-- What an ascending list made of another has, and that it is the only one.
use Rattle.std.proofs.Common.{Ordering, ◌≡◌, ◌∙◌, List, [], ◌∷◌, refl, sym, ap, subst, ◌⊎◌, inl, inr, ⊎_elim}
use Rattle.std.specs.declared.cmp.Ordering.TheVariants.{Less, Equal, Greater}
use Rattle.std.specs.Ordering.{ordering_reverse}
use Rattle.std.specs.List.{AllByRecursion, Contains}
use Rattle.std.specs.List.Sorted.{IsStrictlySortedBy}
use Rattle.std.specs.Cmp.{IsTotalOrder}
use Rattle.std.proofs.lemmas.Cmp.{tied_itself}
use Rattle.std.proofs.lemmas.List.Elements.{All-contains}
use Rattle.std.proofs.lemmas.Map.Views.{All-after_first}
use Rattle.dict_codes.specs.Ascending.{ascending, ascending_from, placed, with_item}
use Rattle.dict_codes.proofs.Members.{first_or_later, here, nothing_in, there}

module _ {X : Type 0} {R : X → X → Ordering} (o : IsTotalOrder R) where
  turned : (x y : X) → R x y ≡ Greater → R y x ≡ Less
  turned x y e = o.antisymm y x ∙ ap ordering_reverse e

  pub not_both : (x y : X) → R x y ≡ Less → R y x ≡ Less → ⊥
  not_both x y a b = let e = sym a ∙ (o.antisymm x y ∙ ap ordering_reverse b) in absurd (cc)

  pub not_itself : (x : X) → R x x ≡ Less → ⊥
  not_itself x a = not_both x x a a

  all_after : (k x : X) (ys : List X) → R k x ≡ Less → AllByRecursion (λ y. R x y ≡ Less) ys → AllByRecursion (λ y. R k y ≡ Less) ys
  all_after k x [] h a = tt
  all_after k x (y ∷ ys) h a = (o.trans k x y h a.0, all_after k x ys h a.1)

  still_after : (k x : X) (ys : List X) → R k x ≡ Less → AllByRecursion (λ y. R k y ≡ Less) ys → AllByRecursion (λ y. R k y ≡ Less) (with_item R x ys)
  still_after k x [] h a = (h, tt)
  still_after k x (y ∷ ys) h a = by_order (R x y) (still_after k x ys h a.1)
    where
      by_order : (c : Ordering) → AllByRecursion (λ y. R k y ≡ Less) (with_item R x ys) → AllByRecursion (λ y. R k y ≡ Less) (placed c x y ys (with_item R x ys))
      by_order Less later = (h, a)
      by_order Equal later = a
      by_order Greater later = (a.0, later)

  with_item-sorted : (x : X) (ys : List X) → IsStrictlySortedBy R ys → IsStrictlySortedBy R (with_item R x ys)
  unfolding IsStrictlySortedBy
  with_item-sorted x [] s = (tt, tt)
  with_item-sorted x (y ∷ ys) s = by_order (R x y) refl (with_item-sorted x ys s.1)
    where
      by_order : (c : Ordering) → R x y ≡ c → IsStrictlySortedBy R (with_item R x ys) → IsStrictlySortedBy R (placed c x y ys (with_item R x ys))
      by_order Less e later = ((e, all_after x y ys e s.0), s)
      by_order Equal e later = s
      by_order Greater e later = (still_after y x ys (turned x y e) s.0, later)

  with_item-within : (x z : X) (ys : List X) → Contains (with_item R x ys) z → (x ≡ z) ⊎ Contains ys z
  with_item-within x z [] h = first_or_later x z [] h
  with_item-within x z (y ∷ ys) h = by_order (R x y) (with_item-within x z ys) h
    where
      by_order : (c : Ordering) → (Contains (with_item R x ys) z → (x ≡ z) ⊎ Contains ys z) → Contains (placed c x y ys (with_item R x ys)) z → (x ≡ z) ⊎ Contains (y ∷ ys) z
      by_order Less rest g = first_or_later x z (y ∷ ys) g
      by_order Equal rest g = inr g
      by_order Greater rest g =
          ⊎_elim (λ e. inr (subst (Contains (y ∷ ys)) e (here y ys))) (λ l. ⊎_elim (λ e. inl e) (λ m. inr (there y z ys m)) (rest l)) (first_or_later y z (with_item R x ys) g)

  with_item-keeps : (x z : X) (ys : List X) → Contains ys z → Contains (with_item R x ys) z
  with_item-keeps x z [] h = absurd (nothing_in z h)
  with_item-keeps x z (y ∷ ys) h = by_order (R x y) (with_item-keeps x z ys)
    where
      by_order : (c : Ordering) → (Contains ys z → Contains (with_item R x ys) z) → Contains (placed c x y ys (with_item R x ys)) z
      by_order Less rest = there x z (y ∷ ys) h
      by_order Equal rest = h
      by_order Greater rest =
          ⊎_elim (λ e. subst (Contains (y ∷ with_item R x ys)) e (here y (with_item R x ys))) (λ l. there y z (with_item R x ys) (rest l)) (first_or_later y z ys h)

  -- an element of the list that is equal to x by R
  abbrev Stands : X → List X → Type 0
  Stands x ys = (y : X) × Contains ys y × (R x y ≡ Equal)

  with_item-has : (x : X) (ys : List X) → Stands x (with_item R x ys)
  with_item-has x [] = (x, here x [], tied_itself o x)
  with_item-has x (y ∷ ys) = by_order (R x y) refl (with_item-has x ys)
    where
      by_order : (c : Ordering) → R x y ≡ c → Stands x (with_item R x ys) → Stands x (placed c x y ys (with_item R x ys))
      by_order Less e rest = (x, here x (y ∷ ys), tied_itself o x)
      by_order Equal e rest = (y, here y ys, e)
      by_order Greater e rest = (rest.0, there y rest.0 (with_item R x ys) rest.1, rest.2)

  from-sorted : (done xs : List X) → IsStrictlySortedBy R done → IsStrictlySortedBy R (ascending_from R done xs)
  from-sorted done [] s = s
  from-sorted done (x ∷ xs) s = from-sorted (with_item R x done) xs (with_item-sorted x done s)

  from-within : (z : X) (done xs : List X) → Contains (ascending_from R done xs) z → Contains done z ⊎ Contains xs z
  from-within z done [] h = inl h
  from-within z done (x ∷ xs) h =
      ⊎_elim (λ d. ⊎_elim (λ e. inr (subst (Contains (x ∷ xs)) e (here x xs))) (λ m. inl m) (with_item-within x z done d)) (λ m. inr (there x z xs m)) (from-within z (with_item R x done) xs h)

  from-keeps : (z : X) (done xs : List X) → Contains done z → Contains (ascending_from R done xs) z
  from-keeps z done [] h = h
  from-keeps z done (x ∷ xs) h = from-keeps z (with_item R x done) xs (with_item-keeps x z done h)

  from-has : (z : X) (done xs : List X) → Contains xs z → Stands z (ascending_from R done xs)
  from-has z done [] h = absurd (nothing_in z h)
  from-has z done (x ∷ xs) h =
      ⊎_elim (λ e. subst (λ w. Stands w (ascending_from R done (x ∷ xs))) e (let s = with_item-has x done in (s.0, from-keeps s.0 (with_item R x done) xs s.1, s.2)))
      (λ m. from-has z (with_item R x done) xs m) (first_or_later x z xs h)

  after_first : (x z : X) (xs : List X) → IsStrictlySortedBy R (x ∷ xs) → Contains xs z → R x z ≡ Less
  after_first x z xs s h = All-contains (λ q. R x q ≡ Less) xs z (All-after_first R x xs s) h

  -- among ascending elements, those that R ties are one
  pub tied_is_same : (xs : List X) (x y : X) → IsStrictlySortedBy R xs → Contains xs x → Contains xs y → R x y ≡ Equal → x ≡ y
  unfolding IsStrictlySortedBy
  tied_is_same [] x y s a b e = absurd (nothing_in x a)
  tied_is_same (w ∷ ws) x y s a b e =
      ⊎_elim (λ p. ⊎_elim (λ q. sym p ∙ q) (λ q. let l : R x y ≡ Less = subst (λ v. R v y ≡ Less) p (after_first w y ws s q) in absurd (differ (sym l ∙ e))) (first_or_later w y ws b))
      (λ p. ⊎_elim (λ q. let l : R y x ≡ Less = subst (λ v. R v x ≡ Less) q (after_first w x ws s p) in absurd (differ (sym l ∙ (o.antisymm y x ∙ ap ordering_reverse e)))) (λ q. tied_is_same ws x y s.1 p q e) (first_or_later w y ws b))
      (first_or_later w x ws a)
    where
      differ : Less ≡ Equal → ⊥
      differ h = cc

  -- ascending lists with the same elements are one
  pub same_elements : (xs ys : List X) → IsStrictlySortedBy R xs → IsStrictlySortedBy R ys → ((z : X) → Contains xs z → Contains ys z) → ((z : X) → Contains ys z → Contains xs z) → xs ≡ ys
  unfolding IsStrictlySortedBy
  same_elements [] [] s t f g = refl
  same_elements [] (y ∷ ys) s t f g = absurd (nothing_in y (g y (here y ys)))
  same_elements (x ∷ xs) [] s t f g = absurd (nothing_in x (f x (here x xs)))
  same_elements (x ∷ xs) (y ∷ ys) s t f g =
      let e : x ≡ y =
      ⊎_elim (λ a. sym a) (λ a. ⊎_elim (λ b. b) (λ b. absurd (not_both x y (after_first x y xs s b) (after_first y x ys t a))) (first_or_later x y xs (g y (here y ys)))) (first_or_later y x ys (f x (here x xs)))
      in
      let forth : (z : X) → Contains xs z → Contains ys z = λ z h.
      ⊎_elim (λ a. absurd (not_itself x (subst (λ v. R x v ≡ Less) (sym (e ∙ a)) (after_first x z xs s h)))) (λ a. a) (first_or_later y z ys (f z (there x z xs h)))
      in
      let back : (z : X) → Contains ys z → Contains xs z = λ z h.
      ⊎_elim (λ a. absurd (not_itself y (subst (λ v. R y v ≡ Less) (sym (sym e ∙ a)) (after_first y z ys t h)))) (λ a. a) (first_or_later x z xs (g z (there y z ys h)))
      in
      rw (e, same_elements xs ys s.1 t.1 forth back) refl

  pub ascending-sorted : (xs : List X) → IsStrictlySortedBy R (ascending R xs)
  unfolding ascending IsStrictlySortedBy
  ascending-sorted xs = from-sorted [] xs tt

  pub ascending-within : (z : X) (xs : List X) → Contains (ascending R xs) z → Contains xs z
  unfolding ascending
  ascending-within z xs h = ⊎_elim (λ a. absurd (nothing_in z a)) (λ a. a) (from-within z [] xs h)

  -- an ascending list with the elements of another is what that one makes
  pub ascending-is : (xs ys : List X) → IsStrictlySortedBy R ys → ((z : X) → Contains xs z → Contains ys z) → ((z : X) → Contains ys z → Contains xs z) → ascending R xs ≡ ys
  unfolding ascending
  ascending-is xs ys s f g =
      same_elements (ascending R xs) ys (ascending-sorted xs) s (λ z h. f z (ascending-within z xs h))
      (λ z h.
      let stands = from-has z [] xs (g z h) in
      let inside = f stands.0 (ascending-within stands.0 xs stands.1) in
      subst (Contains (ascending R xs)) (sym (tied_is_same ys z stands.0 s h inside stands.2)) stands.1)
