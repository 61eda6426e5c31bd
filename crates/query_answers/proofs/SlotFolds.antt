-- Aggregates as folds over slots.
use Rattle.std.proofs.Common.{Ordering, ◌≡◌, ◌∙◌, ℤ, pos, Bool, true, false, cond, not, if◌then◌else◌, List, [], ◌∷◌, length, map, Option, Some, None, unwrap_or, Ok, refl, sym, ap, subst, ⊎_elim, arith}
use Rattle.std.specs.Prelude.{filter, int_lt}
use Rattle.std.specs.declared.cmp.Ordering.TheVariants.{Less, Equal, Greater}
use Rattle.std.specs.Int.{int_min, int_max}
use Rattle.std.specs.List.{Contains, fold, list_all}
use Rattle.std.specs.Option.{option_cmp}
use Rattle.std.specs.Ordering.{is_lt, is_gt, int_cmp, ordering_reverse}
use Rattle.std.proofs.lemmas.Bool.{false≢true}
use Rattle.std.proofs.lemmas.Cmp.{int_cmp_total}
use Rattle.std.proofs.lemmas.Int.{ints}
use Rattle.dict_codes.proofs.Members.{first_or_later, here, nothing_in, there}
use Rattle.control_vectors.specs.Folds.{fold_slots, total_of, least_of as least_number, greatest_of as greatest_number}
use Rattle.control_vectors.specs.Slots.{Slot, numbers, in_128_bits, or_over as cell_or_over, fitted}
use Rattle.control_vectors.proofs.FoldLaws.{total_of-cons}
use Rattle.control_vectors.specs.declared.FoldKind.TheVariants as folds
use Rattle.sql_values.specs.Values.{Value, number, text, truth, null, by_value}
use Rattle.typed_trees.specs.declared.typed.AggregateKind.TheVariants.{Sum}
use Rattle.typed_values.specs.Aggregates.{those_there, numbers_in, lesser, greater, least_of, greatest_of, aggregate_over}
use Rattle.typed_values.specs.Values.{Valued, exact, or_over, is_null}
use Rattle.query_answers.specs.Overs.{◌>>=◌}
use Rattle.query_answers.specs.FoldLaws.{number_slot, one_slot, is_numeric, Compare, SlotLaws}
use Rattle.query_answers.proofs.Lists.{kept_within}
use Rattle.query_answers.proofs.Folds.{sum_is}

-- ---- sums

number_slots : (vs : List Value) → numbers (map number_slot vs) ≡ numbers_in vs
number_slots [] = refl
number_slots (number z ∷ vs) = ap (λ (l : List ℤ). z ∷ l) (number_slots vs)
number_slots (text t ∷ vs) = number_slots vs
number_slots (truth b ∷ vs) = number_slots vs
number_slots (null ∷ vs) = number_slots vs

one_total : (z : ℤ) → fitted z ≡ (exact z >>= λ v. Ok (number_slot v))
one_total z = by (in_128_bits z)
  where
    by : (o : Option ℤ) → cell_or_over o ≡ (or_over o >>= λ v. Ok (number_slot v))
    by None = refl
    by (Some x) = refl

sum_numbers : (vs : List Value) → list_all is_numeric vs ≡ true → fold_slots folds.Sum (map number_slot vs) ≡ ((if list_all is_null vs then Ok null else exact (total_of (numbers_in vs))) >>= λ v. Ok (number_slot v))
sum_numbers [] h = refl
sum_numbers (number z ∷ vs) h = ap (λ (l : List ℤ). fitted (total_of (z ∷ l))) (number_slots vs) ∙ one_total (total_of (z ∷ numbers_in vs))
sum_numbers (text t ∷ vs) h = absurd (false≢true h)
sum_numbers (truth b ∷ vs) h = absurd (false≢true h)
sum_numbers (null ∷ vs) h = sum_numbers vs h

sum : (vs : List Value) → list_all is_numeric vs ≡ true → fold_slots folds.Sum (map number_slot vs) ≡ (aggregate_over Sum vs >>= λ v. Ok (number_slot v))
sum vs h = sum_numbers vs h ∙ ap (λ (r : Valued). r >>= λ v. Ok (number_slot v)) (sym (sum_is vs))

-- ---- counts

count : (vs : List Value) → total_of (numbers (map one_slot vs)) ≡ pos (length (those_there vs))
count [] = refl
count (null ∷ vs) = omega (arith, ints, total_of-cons (pos 0) (numbers (map one_slot vs)), count vs)
count (number z ∷ vs) = omega (arith, ints, total_of-cons (pos 1) (numbers (map one_slot vs)), count vs)
count (text t ∷ vs) = omega (arith, ints, total_of-cons (pos 1) (numbers (map one_slot vs)), count vs)
count (truth b ∷ vs) = omega (arith, ints, total_of-cons (pos 1) (numbers (map one_slot vs)), count vs)

-- ---- the least and the greatest

kept_passes : {A : Type 0} (p : A → Bool) (x : A) (xs : List A) → Contains (filter p xs) x → p x ≡ true
kept_passes p x [] h = absurd (nothing_in x h)
kept_passes p x (y ∷ ys) h = by (p y) refl (λ g. kept_passes p x ys g) h
  where
    by : (b : Bool) → p y ≡ b → (Contains (filter p ys) x → p x ≡ true) → Contains (cond b (y ∷ filter p ys) (filter p ys)) x → p x ≡ true
    by true e further g = ⊎_elim (λ q. subst (λ z. p z ≡ true) q e) (λ l. further l) (first_or_later y x (filter p ys) g)
    by false e further g = further g

-- null is below what is there
below_all : (v : Value) → is_null v ≡ false → Equal ≡ by_value null v → ⊥
below_all (number z) g e = cc
below_all (text t) g e = cc
below_all (truth b) g e = cc
below_all null g e = false≢true (sym g)

equal_numbers : (x y : ℤ) → int_cmp x y ≡ Equal → x ≡ y
equal_numbers x y e = grind arith

-- ---- the number of each value

-- the first or another, by a test that values and their numbers answer alike
module _ (beyond : Value → Value → Bool) (pick : ℤ → ℤ → ℤ) (num : Value → ℤ) where
  abbrev better : Value → Value → Value
  better a b = cond (beyond a b) b a

  abbrev Alike : List Value → Type 0
  Alike vs = (a b : Value) → Contains vs a → Contains vs b → pick (num a) (num b) ≡ num (better a b)

  better_among : (a t x : Value) (rest : List Value) → Contains (better a t ∷ rest) x → Contains (a ∷ t ∷ rest) x
  better_among a t x rest h = ⊎_elim (λ e. by (beyond a t) e) (λ l. there a x (t ∷ rest) (there t x rest l)) (first_or_later (better a t) x rest h)
    where
      by : (b : Bool) → cond b t a ≡ x → Contains (a ∷ t ∷ rest) x
      by true e = subst (Contains (a ∷ t ∷ rest)) e (there a t (t ∷ rest) (here t rest))
      by false e = subst (Contains (a ∷ t ∷ rest)) e (here a (t ∷ rest))

  pub best_number : (a : Value) (ts : List Value) → Alike (a ∷ ts) → fold pick (num a) (map num ts) ≡ num (fold better a ts)
  best_number a [] alike = refl
  best_number a (t ∷ rest) alike =
      ap (λ (z : ℤ). fold pick z (map num rest)) (alike a t (here a (t ∷ rest)) (there a t (t ∷ rest) (here t rest)))
      ∙ best_number (better a t) rest (λ x y h g. alike x y (better_among a t x rest h) (better_among a t y rest g))

  pub best_among : (a : Value) (ts : List Value) → Contains (a ∷ ts) (fold better a ts)
  best_among a [] = here a []
  best_among a (t ∷ rest) = better_among a t (fold better (better a t) rest) rest (best_among (better a t) rest)

module _ (slot : Value → Slot) (vs : List Value) (empty : slot null ≡ None) (compare : Compare slot vs) where
  abbrev num : Value → ℤ
  num v = unwrap_or (slot v) (pos 0)

  -- what is there has a number
  has_number : (v : Value) → Contains (null ∷ vs) v → is_null v ≡ false → slot v ≡ Some (num v)
  has_number v h g = by (slot v) (ap (λ (s : Slot). option_cmp int_cmp s (slot v)) (sym empty) ∙ compare null v (here null vs) h)
    where
      by : (s : Slot) → option_cmp int_cmp None s ≡ by_value null v → s ≡ Some (unwrap_or s (pos 0))
      by (Some z) e = refl
      by None e = absurd (below_all v g e)

  numbers_are : (ws : List Value) → ((w : Value) → Contains ws w → Contains (null ∷ vs) w) → numbers (map slot ws) ≡ map num (those_there ws)
  numbers_are [] h = refl
  numbers_are (null ∷ ws) h = ap (λ (s : Slot). numbers (s ∷ map slot ws)) empty ∙ numbers_are ws (λ w g. h w (there null w ws g))
  numbers_are (number z ∷ ws) h =
      ap (λ (s : Slot). numbers (s ∷ map slot ws)) (has_number (number z) (h (number z) (here (number z) ws)) refl)
      ∙ ap (λ (l : List ℤ). num (number z) ∷ l) (numbers_are ws (λ w g. h w (there (number z) w ws g)))
  numbers_are (text t ∷ ws) h =
      ap (λ (s : Slot). numbers (s ∷ map slot ws)) (has_number (text t) (h (text t) (here (text t) ws)) refl)
      ∙ ap (λ (l : List ℤ). num (text t) ∷ l) (numbers_are ws (λ w g. h w (there (text t) w ws g)))
  numbers_are (truth b ∷ ws) h =
      ap (λ (s : Slot). numbers (s ∷ map slot ws)) (has_number (truth b) (h (truth b) (here (truth b) ws)) refl)
      ∙ ap (λ (l : List ℤ). num (truth b) ∷ l) (numbers_are ws (λ w g. h w (there (truth b) w ws g)))

  all_numbers : numbers (map slot vs) ≡ map num (those_there vs)
  all_numbers = numbers_are vs (λ w g. there null w vs g)

  -- one of those that are there
  among : (v : Value) → Contains (those_there vs) v → Contains (null ∷ vs) v × (is_null v ≡ false)
  among v h = (there null v vs (kept_within (λ w. not (is_null w)) v vs h), by (is_null v) (kept_passes (λ w. not (is_null w)) v vs h))
    where
      by : (b : Bool) → not b ≡ true → b ≡ false
      by true e = sym e
      by false e = refl

  numbers_compare : (a b : Value) → Contains (those_there vs) a → Contains (those_there vs) b → int_cmp (num a) (num b) ≡ by_value a b
  numbers_compare a b h g =
      let p = among a h in
      let q = among b g in
      (λ i. option_cmp int_cmp (sym (has_number a p.0 p.1) i) (sym (has_number b q.0 q.1) i)) ∙ compare a b p.0 q.0

  less_is : (x y : ℤ) → is_gt (int_cmp x y) ≡ int_lt y x
  less_is x y = ap is_gt (int_cmp_total.antisymm x y) ∙ by (int_lt y x) (int_lt x y)
    where
      by : (s t : Bool) → is_gt (ordering_reverse (cond s Less (cond t Greater Equal))) ≡ s
      by true t = refl
      by false true = refl
      by false false = refl

  lesser_number : (a b : Value) → Contains (those_there vs) a → Contains (those_there vs) b → int_min (num a) (num b) ≡ num (lesser a b)
  lesser_number a b h g =
      ap (λ (t : Bool). cond t (num b) (num a)) (sym (less_is (num a) (num b)) ∙ ap is_gt (numbers_compare a b h g)) ∙ by (is_gt (by_value a b))
    where
      by : (t : Bool) → cond t (num b) (num a) ≡ num (if t then b else a)
      by true = refl
      by false = refl

  greater_number : (a b : Value) → Contains (those_there vs) a → Contains (those_there vs) b → int_max (num a) (num b) ≡ num (greater a b)
  greater_number a b h g =
      ap (λ (t : Bool). cond t (num a) (num b)) (sym (less_is (num a) (num b))) ∙ by (int_cmp (num a) (num b)) refl ∙ ap (λ (c : Ordering). num (if is_lt c then b else a)) (numbers_compare a b h g)
    where
      by : (c : Ordering) → int_cmp (num a) (num b) ≡ c → cond (is_gt c) (num a) (num b) ≡ num (if is_lt c then b else a)
      by Less e = refl
      by Greater e = refl
      by Equal e = sym (equal_numbers (num a) (num b) e)

  least_slot : (ts : List Value) → those_there vs ≡ ts → Ok (least_number (map num ts)) ≡ (least_of ts >>= λ v. Ok (slot v))
  least_slot [] is = ap (λ (s : Slot). Ok s) (sym empty)
  least_slot (t ∷ ts) is =
      let inside : (v : Value) → Contains (t ∷ ts) v → Contains (those_there vs) v = λ v h. subst (λ (l : List Value). Contains l v) (sym is) h in
      let v = fold lesser t ts in
      let p = among v (inside v (best_among (λ a b. is_gt (by_value a b)) int_min num t ts)) in
      ap (λ (z : ℤ). Ok (Some z)) (best_number (λ a b. is_gt (by_value a b)) int_min num t ts (λ a b h g. lesser_number a b (inside a h) (inside b g)))
      ∙ ap (λ (s : Slot). Ok s) (sym (has_number v p.0 p.1))

  greatest_slot : (ts : List Value) → those_there vs ≡ ts → Ok (greatest_number (map num ts)) ≡ (greatest_of ts >>= λ v. Ok (slot v))
  greatest_slot [] is = ap (λ (s : Slot). Ok s) (sym empty)
  greatest_slot (t ∷ ts) is =
      let inside : (v : Value) → Contains (t ∷ ts) v → Contains (those_there vs) v = λ v h. subst (λ (l : List Value). Contains l v) (sym is) h in
      let v = fold greater t ts in
      let p = among v (inside v (best_among (λ a b. is_lt (by_value a b)) int_max num t ts)) in
      ap (λ (z : ℤ). Ok (Some z)) (best_number (λ a b. is_lt (by_value a b)) int_max num t ts (λ a b h g. greater_number a b (inside a h) (inside b g)))
      ∙ ap (λ (s : Slot). Ok s) (sym (has_number v p.0 p.1))

pub slot_laws : SlotLaws
slot_laws = record {
  count = count;
  sum = sum;
  least = λ slot vs empty compare. ap (λ (l : List ℤ). Ok (least_number l)) (all_numbers slot vs empty compare) ∙ least_slot slot vs empty compare (those_there vs) refl;
  greatest = λ slot vs empty compare. ap (λ (l : List ℤ). Ok (greatest_number l)) (all_numbers slot vs empty compare) ∙ greatest_slot slot vs empty compare (those_there vs) refl;
}
