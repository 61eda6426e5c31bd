-- The runs of a sorted list are its distinct keys, ascending, each with the elements that have it.
use Rattle.std.proofs.Common.{Ordering, ◌≡◌, ◌∙◌, suc, ◌+◌, Bool, true, false, cond, not, List, [], ◌∷◌, map, refl, sym, ap, subst, ◌⊎◌, inl, inr, ⊎_elim, arith}
use Rattle.std.specs.declared.cmp.Ordering.TheVariants.{Less, Equal, Greater}
use Rattle.std.specs.Ordering.{is_lt, is_eq, ordering_reverse}
use Rattle.std.specs.Prelude.{filter}
use Rattle.std.specs.List.{AllByRecursion, Contains}
use Rattle.std.specs.List.Sorted.{IsSortedBy, IsStableBy, IsStrictlySortedBy, ties}
use Rattle.std.proofs.lemmas.Bool.{false≢true}
use Rattle.std.proofs.lemmas.Cmp.{tied_itself, alike_right}
use Rattle.std.proofs.lemmas.List.Elements.{filter_agree}
use Rattle.dict_codes.specs.Ascending.{ascending}
use Rattle.dict_codes.proofs.Members.{first_or_later, here, nothing_in, there}
use Rattle.dict_codes.proofs.AscendingLaws.{ascending-is}
use Rattle.control_vectors.specs.Runs.{runs, runs_with_first}
use Rattle.sql_values.specs.Values.{Value}
use Rattle.query_answers.specs.Answers.{by_key}
use Rattle.query_answers.specs.Runs.{changes, key_marks}
use Rattle.query_answers.proofs.KeyOrders.{keys_total, keys_alike, ties_are}

-- what a key says of its order with another
less_is : (a b : List Value) → by_key a b ≡ Less → is_eq (by_key b a) ≡ false
less_is a b e = ap is_eq (keys_total.antisymm b a ∙ ap ordering_reverse e)

itself : (a : List Value) → is_eq (by_key a a) ≡ true
itself a = ap is_eq (tied_itself keys_total a)

not_greater : (a b : List Value) → is_lt (by_key b a) ≡ false → by_key a b ≡ Greater → ⊥
not_greater a b h e = false≢true (sym h ∙ ap is_lt (keys_total.antisymm b a ∙ ap ordering_reverse e))

-- above what is above
above_all : (k l : List Value) (ks : List (List Value)) → by_key k l ≡ Less → AllByRecursion (λ m. by_key l m ≡ Less) ks → AllByRecursion (λ m. by_key k m ≡ Less) ks
above_all k l [] h a = tt
above_all k l (m ∷ ms) h a = (keys_total.trans k l m h a.0, above_all k l ms h a.1)

tail_sorted : {X : Type 0} (lt : X → X → Bool) (x : X) (xs : List X) → IsSortedBy lt (x ∷ xs) → IsSortedBy lt xs
tail_sorted lt x xs up k d l h = let next : suc k + 1 ≡ suc (k + 1) = omega arith in rw next at (up (suc k) d (omega arith) (omega arith))

module _ {A : Type 0} (key : A → List Value) where
  abbrev pub before : A → A → Bool
  before a b = is_lt (by_key (key a) (key b))

  abbrev pub same : List Value → A → Bool
  same k a = is_eq (by_key k (key a))

  -- a run, as its first element and the others
  abbrev pub Piece : Type 0
  Piece = A × List A

  abbrev pub add_by : Bool → A → Piece → List Piece → List Piece
  add_by true x p ps = (x, p.0 ∷ p.1) ∷ ps
  add_by false x p ps = (x, []) ∷ p ∷ ps

  abbrev pub add : A → List Piece → List Piece
  add x [] = (x, []) ∷ []
  add x (p ∷ ps) = add_by (is_eq (by_key (key x) (key p.0))) x p ps

  abbrev pub pieces : List A → List Piece
  pieces [] = []
  pieces (x ∷ xs) = add x (pieces xs)

  abbrev pub whole : Piece → List A
  whole p = p.0 ∷ p.1

  abbrev pub piece_key : Piece → List Value
  piece_key p = key p.0

  abbrev pub keys_in : List A → List (List Value)
  keys_in xs = map piece_key (pieces xs)

  -- ---- a list's first piece begins with its first element

  abbrev Begins : A → List Piece → Type 0
  Begins x ps = (l : List A) × (o : List Piece) × (ps ≡ (x, l) ∷ o)

  begins : (x : A) (ps : List Piece) → Begins x (add x ps)
  begins x [] = ([], [], refl)
  begins x (p ∷ ps) = by (is_eq (by_key (key x) (key p.0)))
    where
      by : (b : Bool) → Begins x (add_by b x p ps)
      by true = (p.0 ∷ p.1, ps, refl)
      by false = ([], p ∷ ps, refl)

  -- ---- the pieces are the runs

  more_runs : (x y : A) (marks : List Bool) (l : List A) (o : List Piece) → runs_with_first (not (is_eq (by_key (key x) (key y))) ∷ marks) x (map whole ((y, l) ∷ o)) ≡ map whole (add x ((y, l) ∷ o))
  more_runs x y marks l o = by (is_eq (by_key (key x) (key y)))
    where
      by : (b : Bool) → runs_with_first (not b ∷ marks) x (map whole ((y, l) ∷ o)) ≡ map whole (add_by b x (y, l) o)
      by true = refl
      by false = refl

  pub runs_are : (xs : List A) → runs (key_marks (map key xs)) xs ≡ map whole (pieces xs)
  runs_are [] = refl
  runs_are (x ∷ []) = refl
  runs_are (x ∷ y ∷ zs) =
      let b = begins y (pieces zs) in
      let marks = changes (key y) (map key zs) in
      ap (runs_with_first (not (is_eq (by_key (key x) (key y))) ∷ marks) x) (runs_are (y ∷ zs) ∙ ap (map whole) b.2)
      ∙ (more_runs x y marks b.0 b.1 ∙ ap (λ (ps : List Piece). map whole (add x ps)) (sym b.2))

  -- ---- their keys ascend

  strict : (xs : List A) → IsSortedBy before xs → IsStrictlySortedBy by_key (keys_in xs)
  unfolding IsStrictlySortedBy
  strict [] up = tt
  strict (x ∷ []) up = (tt, tt)
  strict (x ∷ y ∷ zs) up =
      let b = begins y (pieces zs) in
      let further = subst (λ (ps : List Piece). IsStrictlySortedBy by_key (map piece_key ps)) b.2 (strict (y ∷ zs) (tail_sorted before x (y ∷ zs) up)) in
      subst (λ (ps : List Piece). IsStrictlySortedBy by_key (map piece_key (add x ps))) (sym b.2) (by (by_key (key x) (key y)) refl b.0 b.1 further)
    where
      by : (c : Ordering) → by_key (key x) (key y) ≡ c → (l : List A) (o : List Piece) → IsStrictlySortedBy by_key (map piece_key ((y, l) ∷ o)) → IsStrictlySortedBy by_key (map piece_key (add_by (is_eq c) x (y, l) o))
      by Less e l o further = ((e, above_all (key x) (key y) (map piece_key o) e further.0), further)
      by Equal e l o further = subst (λ (k : List Value). IsStrictlySortedBy by_key (k ∷ map piece_key o)) (sym (keys_alike (key x) (key y) e)) further
      by Greater e l o further = absurd (not_greater (key x) (key y) (up 0 x (omega arith) (omega arith)) e)

  -- ---- they are the keys of the elements

  add_within : (z : List Value) (x : A) (ps : List Piece) → Contains (map piece_key (add x ps)) z → (key x ≡ z) ⊎ Contains (map piece_key ps) z
  add_within z x [] h = first_or_later (key x) z [] h
  add_within z x (p ∷ ps) h = by (is_eq (by_key (key x) (key p.0))) h
    where
      by : (b : Bool) → Contains (map piece_key (add_by b x p ps)) z → (key x ≡ z) ⊎ Contains (map piece_key (p ∷ ps)) z
      by true g = ⊎_elim (λ a. inl a) (λ a. inr (there (key p.0) z (map piece_key ps) a)) (first_or_later (key x) z (map piece_key ps) g)
      by false g = first_or_later (key x) z (map piece_key (p ∷ ps)) g

  within : (z : List Value) (xs : List A) → Contains (keys_in xs) z → Contains (map key xs) z
  within z [] h = h
  within z (x ∷ xs) h =
      ⊎_elim (λ e. subst (Contains (map key (x ∷ xs))) e (here (key x) (map key xs))) (λ a. there (key x) z (map key xs) (within z xs a)) (add_within z x (pieces xs) h)

  eq_is : (c : Ordering) → is_eq c ≡ true → c ≡ Equal
  eq_is Less e = absurd cc
  eq_is Equal e = refl
  eq_is Greater e = absurd cc

  add_has : (z : List Value) (x : A) (ps : List Piece) → (key x ≡ z) ⊎ Contains (map piece_key ps) z → Contains (map piece_key (add x ps)) z
  add_has z x [] h = ⊎_elim (λ e. subst (Contains (key x ∷ [])) e (here (key x) [])) (λ a. absurd (nothing_in z a)) h
  add_has z x (p ∷ ps) h = by (is_eq (by_key (key x) (key p.0))) refl
    where
      by : (b : Bool) → is_eq (by_key (key x) (key p.0)) ≡ b → Contains (map piece_key (add_by b x p ps)) z
      by true e =
          let one : key x ≡ key p.0 = keys_alike (key x) (key p.0) (eq_is (by_key (key x) (key p.0)) e) in
          ⊎_elim (λ a. subst (Contains (key x ∷ map piece_key ps)) a (here (key x) (map piece_key ps)))
          (λ a. ⊎_elim (λ q. subst (Contains (key x ∷ map piece_key ps)) (one ∙ q) (here (key x) (map piece_key ps))) (λ q. there (key x) z (map piece_key ps) q) (first_or_later (key p.0) z (map piece_key ps) a)) h
      by false e = ⊎_elim (λ a. subst (Contains (key x ∷ map piece_key (p ∷ ps))) a (here (key x) (map piece_key (p ∷ ps)))) (λ a. there (key x) z (map piece_key (p ∷ ps)) a) h

  has : (z : List Value) (xs : List A) → Contains (map key xs) z → Contains (keys_in xs) z
  has z [] h = h
  has z (x ∷ xs) h = add_has z x (pieces xs) (⊎_elim (λ e. inl e) (λ a. inr (has z xs a)) (first_or_later (key x) z (map key xs) h))

  -- ---- a piece has the elements of its key

  -- a key with the elements of a list that have it, and a piece with its key
  abbrev pub having_key : List A → List Value → List Value × List A
  having_key xs k = (k, filter (same k) xs)

  abbrev pub keyed : Piece → List Value × List A
  keyed p = (piece_key p, whole p)

  abbrev first_of : List (List Value × List A) → List A
  first_of [] = []
  first_of (p ∷ ps) = p.1

  abbrev others_of : List (List Value × List A) → List (List Value × List A)
  others_of [] = []
  others_of (p ∷ ps) = ps

  -- an element that has none of some keys
  not_counted : (x : A) (xs : List A) (ks : List (List Value)) → AllByRecursion (λ k. same k x ≡ false) ks → map (having_key (x ∷ xs)) ks ≡ map (having_key xs) ks
  not_counted x xs [] a = refl
  not_counted x xs (k ∷ ks) a =
      let first : filter (same k) (x ∷ xs) ≡ filter (same k) xs = ap (λ (b : Bool). cond b (x ∷ filter (same k) xs) (filter (same k) xs)) a.0 in
      let others = not_counted x xs ks a.1 in
      λ i. (k, first i) ∷ others i

  below_others : (x : A) (k : List Value) (ks : List (List Value)) → k ≡ key x → AllByRecursion (λ l. by_key k l ≡ Less) ks → AllByRecursion (λ l. same l x ≡ false) ks
  below_others x k [] e a = tt
  below_others x k (l ∷ ls) e a = (less_is (key x) l (subst (λ (m : List Value). by_key m l ≡ Less) e a.0), below_others x k ls e a.1)

  -- where all are above a key, none has it
  none_above : (k : List Value) (y : A) (zs : List A) → by_key k (key y) ≡ Less → IsSortedBy before (y ∷ zs) → filter (same k) (y ∷ zs) ≡ []
  none_above k y [] h up = ap (λ (c : Ordering). cond (is_eq c) (y ∷ []) []) h
  none_above k y (z ∷ zs) h up =
      ap (λ (c : Ordering). cond (is_eq c) (y ∷ filter (same k) (z ∷ zs)) (filter (same k) (z ∷ zs))) h
      ∙ none_above k z zs (by (by_key (key y) (key z)) refl) (tail_sorted before y (z ∷ zs) up)
    where
      by : (c : Ordering) → by_key (key y) (key z) ≡ c → by_key k (key z) ≡ Less
      by Less e = keys_total.trans k (key y) (key z) h e
      by Equal e = sym (alike_right keys_total (key y) (key z) k e) ∙ h
      by Greater e = absurd (not_greater (key y) (key z) (up 0 y (omega arith) (omega arith)) e)

  first_kept : (x : A) (xs : List A) → filter (same (key x)) (x ∷ xs) ≡ x ∷ filter (same (key x)) xs
  first_kept x xs = ap (λ (b : Bool). cond b (x ∷ filter (same (key x)) xs) (filter (same (key x)) xs)) (itself (key x))

  pieces_are : (xs : List A) → IsSortedBy before xs → map keyed (pieces xs) ≡ map (having_key xs) (keys_in xs)
  unfolding IsStrictlySortedBy
  pieces_are [] up = refl
  pieces_are (x ∷ []) up = ap (λ (l : List A). (key x, l) ∷ []) (sym (first_kept x []))
  pieces_are (x ∷ y ∷ zs) up =
      let b = begins y (pieces zs) in
      let rest = tail_sorted before x (y ∷ zs) up in
      let further = subst (λ (ps : List Piece). map keyed ps ≡ map (having_key (y ∷ zs)) (map piece_key ps)) b.2 (pieces_are (y ∷ zs) rest) in
      let rising = subst (λ (ps : List Piece). IsStrictlySortedBy by_key (map piece_key ps)) b.2 (strict (y ∷ zs) rest) in
      subst (λ (ps : List Piece). map keyed (add x ps) ≡ map (having_key (x ∷ y ∷ zs)) (map piece_key (add x ps))) (sym b.2) (by (by_key (key x) (key y)) refl b.0 b.1 rest further rising)
    where
      by : (c : Ordering) → by_key (key x) (key y) ≡ c → (l : List A) (o : List Piece) → IsSortedBy before (y ∷ zs) → map keyed ((y, l) ∷ o) ≡ map (having_key (y ∷ zs)) (map piece_key ((y, l) ∷ o)) → IsStrictlySortedBy by_key (map piece_key ((y, l) ∷ o))
          → map keyed (add_by (is_eq c) x (y, l) o) ≡ map (having_key (x ∷ y ∷ zs)) (map piece_key (add_by (is_eq c) x (y, l) o))
      by Less e l o rest further rising =
          let first : x ∷ [] ≡ filter (same (key x)) (x ∷ y ∷ zs) = sym (first_kept x (y ∷ zs) ∙ ap (λ (m : List A). x ∷ m) (none_above (key x) y zs e rest)) in
          let others = further ∙ sym (not_counted x (y ∷ zs) (map piece_key ((y, l) ∷ o)) (below_others x (key x) (map piece_key ((y, l) ∷ o)) refl (e, above_all (key x) (key y) (map piece_key o) e rising.0))) in
          λ i. (key x, first i) ∷ others i
      by Equal e l o rest further rising =
          let one : key y ≡ key x = sym (keys_alike (key x) (key y) e) in
          let ends : y ∷ l ≡ filter (same (key y)) (y ∷ zs) = ap first_of further in
          let first : x ∷ y ∷ l ≡ filter (same (key x)) (x ∷ y ∷ zs) = ap (λ (m : List A). x ∷ m) (ends ∙ ap (λ (k : List Value). filter (same k) (y ∷ zs)) one) ∙ sym (first_kept x (y ∷ zs)) in
          let others = ap others_of further ∙ sym (not_counted x (y ∷ zs) (map piece_key o) (below_others x (key y) (map piece_key o) one rising.0)) in
          λ i. (key x, first i) ∷ others i
      by Greater e l o rest further rising = absurd (not_greater (key x) (key y) (up 0 x (omega arith) (omega arith)) e)

  -- ---- a key stands in a list where some element has it

  found : (z : List Value) (xs : List A) → Contains (map key xs) z → (x : A) × (key x ≡ z)
  found z [] h = absurd (nothing_in z h)
  found z (x ∷ xs) h = ⊎_elim (λ e. (x, e)) (λ a. found z xs a) (first_or_later (key x) z (map key xs) h)

  kept_some : (z : List Value) (xs : List A) → Contains (map key xs) z → filter (same z) xs ≡ [] → ⊥
  kept_some z [] h e = nothing_in z h
  kept_some z (x ∷ xs) h e = by (same z x) refl (λ a g. kept_some z xs a g) e
    where
      by : (b : Bool) → same z x ≡ b → (Contains (map key xs) z → filter (same z) xs ≡ [] → ⊥) → cond b (x ∷ filter (same z) xs) (filter (same z) xs) ≡ [] → ⊥
      by true q further g = cc
      by false q further g = ⊎_elim (λ a. false≢true (sym q ∙ (ap (λ (k : List Value). same k x) (sym a) ∙ itself (key x)))) (λ a. further a g) (first_or_later (key x) z (map key xs) h)

  some_kept : (z : List Value) (xs : List A) → (filter (same z) xs ≡ [] → ⊥) → Contains (map key xs) z
  some_kept z [] h = absurd (h refl)
  some_kept z (x ∷ xs) h = by (same z x) refl (λ g. some_kept z xs g) h
    where
      by : (b : Bool) → same z x ≡ b → ((filter (same z) xs ≡ [] → ⊥) → Contains (map key xs) z) → (cond b (x ∷ filter (same z) xs) (filter (same z) xs) ≡ [] → ⊥) → Contains (map key (x ∷ xs)) z
      by true q further g = subst (Contains (map key (x ∷ xs))) (sym (keys_alike z (key x) (eq_is (by_key z (key x)) q))) (here (key x) (map key xs))
      by false q further g = there (key x) z (map key xs) (further g)

  -- ---- a stable sort has the same elements of each key

  module _ (rows sorted : List A) (up : IsSortedBy before sorted) (stable : IsStableBy before rows sorted) where
    same_kept : (x : A) → filter (same (key x)) rows ≡ filter (same (key x)) sorted
    same_kept x =
        let tie : (y : A) → ties before x y ≡ same (key x) y = ties_are keys_total key x in
        sym (filter_agree (ties before x) (same (key x)) tie rows) ∙ (sym (stable x) ∙ filter_agree (ties before x) (same (key x)) tie sorted)

    same_of_each : (ps : List Piece) → map (having_key rows) (map piece_key ps) ≡ map (having_key sorted) (map piece_key ps)
    same_of_each [] = refl
    same_of_each (p ∷ ps) =
        let first = same_kept p.0 in
        let others = same_of_each ps in
        λ i. (key p.0, first i) ∷ others i

    to_sorted : (z : List Value) → Contains (map key rows) z → Contains (map key sorted) z
    to_sorted z h =
        let x = found z rows h in
        let kept : filter (same z) rows ≡ filter (same z) sorted = subst (λ k. filter (same k) rows ≡ filter (same k) sorted) x.1 (same_kept x.0) in
        some_kept z sorted (λ none. kept_some z rows h (kept ∙ none))

    from_sorted : (z : List Value) → Contains (map key sorted) z → Contains (map key rows) z
    from_sorted z h =
        let x = found z sorted h in
        let kept : filter (same z) rows ≡ filter (same z) sorted = subst (λ k. filter (same k) rows ≡ filter (same k) sorted) x.1 (same_kept x.0) in
        some_kept z rows (λ none. kept_some z sorted h (sym kept ∙ none))

    pub keys_are : ascending by_key (map key rows) ≡ keys_in sorted
    keys_are = ascending-is keys_total (map key rows) (keys_in sorted) (strict sorted up) (λ z h. has z sorted (to_sorted z h)) (λ z h. from_sorted z (within z sorted h))

    pub each_with_its_rows : map (having_key rows) (ascending by_key (map key rows)) ≡ map keyed (pieces sorted)
    each_with_its_rows = ap (map (having_key rows)) keys_are ∙ (same_of_each (pieces sorted) ∙ sym (pieces_are sorted up))
