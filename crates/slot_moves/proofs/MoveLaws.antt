-- Slots that are gathered, scattered and counted, place by place.
use Rattle.std.proofs.Common.{◌≡◌, ◌≢◌, ℕ, zero, suc, ◌+◌, ◌<◌, ℤ, pos, negsuc, Bool, true, false, cond, List, [], ◌∷◌, ◌++◌, length, map, take, not, get_or, set, replicate, refl, sym, ap, ◌∙◌, arith, inl, inr, append-nil, if◌then◌else◌, Option, Some, None, Result, Ok, Err}
use Rattle.std.specs.Prelude.{nat_lt, int_lt, filter, slice_get}
use Rattle.std.specs.List.{range_with_len, last_or}
use Rattle.std.specs.Option.{option_map}
use Rattle.std.specs.Ordering.{int_eq}
use Rattle.std.proofs.lemmas.List.{length-map, map-id, get_or-set_same, get_or-set_other, length-set, get_or-replicate, length-replicate}
use Rattle.std.proofs.lemmas.List.Elements.{filter-append}
use Rattle.std.proofs.lemmas.List.FromFn.{fill_by_all, length-map-range_with_len, get_or-map-range_with_len, map-range_with_len_more}
use Rattle.std.proofs.lemmas.Bool.{cases_eq}
use Rattle.std.proofs.lemmas.Bool.Decides.{Decides-int_eq, nat_tests}
use Rattle.std.proofs.lemmas.Int.{ints}
use Rattle.std.specs.List.Sorted.{IsPermutation}
use Rattle.std.proofs.lemmas.List.Sorted.{sum_by-IsPermutation}
use Rattle.control_vectors.specs.Slots.{Slot, over, numbers, cells_of}
use Rattle.control_vectors.specs.declared.Over.{Over}
use Rattle.control_vectors.proofs.SlotLaws.{numbers-append, has_over-cells_of, slots_in-cells_of}
use Rattle.struct_vectors.specs.Columns.{marked_slot, marked_slots}
use Rattle.slot_columns.proofs.Listings.{map_by_place, take_get}
use Rattle.sort_order.specs.Buckets.{bucket, partition_place, partition_slots, partitioned, partitioned_cells}
use Rattle.slot_moves.specs.Moves.{slot_at, gathered, place_in, is_place, writers_to, writer, noted}

pub gathered_by_place : (xs positions : List Slot) (n : ℕ) → n ≡ length positions → map (λ i. slot_at xs (get_or positions i None)) (range_with_len 0 n) ≡ gathered xs positions
gathered_by_place xs positions n e = ap (λ k. map (λ i. slot_at xs (get_or positions i None)) (range_with_len 0 k)) e ∙ sym (map_by_place (slot_at xs) positions None)

-- ---- the numbers of some slots

pub numbers_more : (slots : List Slot) (found more : List ℤ) (i : ℕ) (s : Slot) → more ≡ found ++ numbers (s ∷ []) → found ≡ numbers (take i slots) → slice_get slots i ≡ Some s → more ≡ numbers (take (i + 1) slots)
numbers_more slots found more i s m e at =
    m ∙ ap (λ (l : List ℤ). l ++ numbers (s ∷ [])) e ∙ sym (numbers-append (take i slots) (s ∷ [])) ∙ ap numbers (sym (take_get slots i s at))

-- the order of the pivots makes no difference to a bucket
pub bucket_same : (pivots sorted : List ℤ) (key : Slot) → IsPermutation pivots sorted → bucket sorted key ≡ bucket pivots key
bucket_same pivots sorted None h = refl
bucket_same pivots sorted (Some x) h = ap (λ n. Some (pos n)) (sum_by-IsPermutation (λ (p : ℤ). cond (not (int_lt x p)) 1 0) pivots sorted h)

pub bucketed_same : (pivots sorted : List ℤ) (keys : List Slot) → IsPermutation pivots sorted → map (bucket sorted) keys ≡ map (bucket pivots) keys
bucketed_same pivots sorted [] h = refl
bucketed_same pivots sorted (k ∷ keys) h = ap (λ (s : Slot). s ∷ map (bucket sorted) keys) (bucket_same pivots sorted k h) ∙ ap (λ (l : List Slot). bucket pivots k ∷ l) (bucketed_same pivots sorted keys h)

-- ---- writers, as far as some place

last_more : (o : Option ℕ) (xs : List ℕ) (j : ℕ) → last_or o (xs ++ j ∷ []) ≡ Some j
last_more o [] j = refl
last_more o (x ∷ xs) j = last_more (Some x) xs j

same_end : (p : ℕ → Bool) (j : ℕ) (xs : List ℕ) → p j ≡ false → xs ++ filter p (j ∷ []) ≡ xs
same_end p j xs e = rw e (append-nil xs)

one_end : (p : ℕ → Bool) (j : ℕ) (xs : List ℕ) → p j ≡ true → xs ++ filter p (j ∷ []) ≡ xs ++ j ∷ []
one_end p j xs e = rw e refl

range_more : (k : ℕ) → range_with_len 0 (k + 1) ≡ range_with_len 0 k ++ k ∷ []
range_more k = sym (map-id (range_with_len 0 (k + 1))) ∙ map-range_with_len_more (λ (i : ℕ). i) 0 k k (omega arith) ∙ ap (λ (l : List ℕ). l ++ k ∷ []) (map-id (range_with_len 0 k))

writers_to_more : (positions : List Slot) (k i : ℕ) → writers_to positions (k + 1) i ≡ writers_to positions k i ++ filter (λ j. is_place i (get_or positions j None)) (k ∷ [])
writers_to_more positions k i =
    ap (filter (λ j. is_place i (get_or positions j None))) (range_more k) ∙ filter-append (λ j. is_place i (get_or positions j None)) (range_with_len 0 k) (k ∷ [])

writer_new : (positions : List Slot) (k i : ℕ) → is_place i (get_or positions k None) ≡ true → writer positions (k + 1) i ≡ Some (pos k)
writer_new positions k i e =
    ap (λ (l : List ℕ). option_map pos (last_or None l)) (writers_to_more positions k i ∙ one_end (λ j. is_place i (get_or positions j None)) k (writers_to positions k i) e)
    ∙ ap (option_map pos) (last_more None (writers_to positions k i) k)

writer_kept : (positions : List Slot) (k i : ℕ) → is_place i (get_or positions k None) ≡ false → writer positions (k + 1) i ≡ writer positions k i
writer_kept positions k i e =
    ap (λ (l : List ℕ). option_map pos (last_or None l)) (writers_to_more positions k i ∙ same_end (λ j. is_place i (get_or positions j None)) k (writers_to positions k i) e)

place_is : (i j : ℕ) → j ≡ i → is_place i (Some (pos j)) ≡ true
place_is i j e = (Decides-int_eq (pos j) (pos i)).1 (ap pos e)

place_is_not : (i j : ℕ) → j ≢ i → is_place i (Some (pos j)) ≡ false
place_is_not i j ne = not_true (int_eq (pos j) (pos i)) (λ e. let same : pos j ≡ pos i = (Decides-int_eq (pos j) (pos i)).0 e in ne (omega (arith, ints)))
  where
    not_true : (b : Bool) → (b ≡ true → ⊥) → b ≡ false
    not_true true h = absurd (h refl)
    not_true false h = refl

-- where a position names no place, no writer changes
place_outside : (n i : ℕ) (p : Slot) → None ≡ place_in n p → i < n → is_place i p ≡ false
place_outside n i None e h = refl
place_outside n i (Some (pos j)) e h = by (nat_lt j n) refl e
  where
    by : (b : Bool) → nat_lt j n ≡ b → None ≡ (if b then Some j else None) → is_place i (Some (pos j)) ≡ false
    by true t q = absurd cc
    by false t q = let ne : j ≢ i = grind (arith, nat_tests) in place_is_not i j ne
place_outside n i (Some (negsuc j)) e h = refl

place_inside : (n j : ℕ) (p : Slot) → Some j ≡ place_in n p → (j < n) × (p ≡ Some (pos j))
place_inside n j None e = absurd cc
place_inside n j (Some (pos i)) e = by (nat_lt i n) refl e
  where
    by : (b : Bool) → nat_lt i n ≡ b → Some j ≡ (if b then Some i else None) → (j < n) × (Some (pos i) ≡ Some (pos j))
    by true t q =
        let same : j ≡ i = cc in
        let below : j < n = grind (arith, nat_tests) in
        (below, ap (λ m. Some (pos m)) (sym same))
    by false t q = absurd cc
place_inside n j (Some (negsuc i)) e = absurd cc

written_none : (positions : List Slot) (n k : ℕ) (p : Slot) (now : List Slot) → get_or positions k None ≡ p → None ≡ place_in n p → now ≡ map (writer positions k) (range_with_len 0 n) → now ≡ map (writer positions (k + 1)) (range_with_len 0 n)
written_none positions n k p now at out e =
    fill_by_all (writer positions (k + 1)) now n None (ap (λ (l : List Slot). length l) e ∙ length-map-range_with_len (writer positions k) 0 n)
    (λ i h. ap (λ (l : List Slot). get_or l i None) e ∙ get_or-map-range_with_len (writer positions k) 0 n i i None h (omega arith) ∙ sym (writer_kept positions k i (ap (is_place i) at ∙ place_outside n i p out h)))

written_some : (positions : List Slot) (n k j : ℕ) (p : Slot) (now more : List Slot) → get_or positions k None ≡ p → Some j ≡ place_in n p → more ≡ set now j (Some (pos k)) → now ≡ map (writer positions k) (range_with_len 0 n) → more ≡ map (writer positions (k + 1)) (range_with_len 0 n)
written_some positions n k j p now more at out m e =
    let there = place_inside n j p out in
    let many : length now ≡ n = ap (λ (l : List Slot). length l) e ∙ length-map-range_with_len (writer positions k) 0 n in
    fill_by_all (writer positions (k + 1)) more n None (ap (λ (l : List Slot). length l) m ∙ length-set now j (Some (pos k)) ∙ many)
    (λ i h. ap (λ (l : List Slot). get_or l i None) m ∙ elim (cases_eq i j) [
      | inl same ↦
          let inside : j < length now = omega (arith, many, there.0) in
          ap (λ q. get_or (set now j (Some (pos k))) q None) same ∙ get_or-set_same now j (Some (pos k)) None inside
          ∙ sym (writer_new positions k i (ap (is_place i) (at ∙ there.1) ∙ place_is i j (sym same)))
      | inr ne ↦
          let other : j ≢ i = λ q. ne (sym q) in
          get_or-set_other now j i (Some (pos k)) None ne ∙ ap (λ (l : List Slot). get_or l i None) e
          ∙ get_or-map-range_with_len (writer positions k) 0 n i i None h (omega arith)
          ∙ sym (writer_kept positions k i (ap (is_place i) (at ∙ there.1) ∙ place_is_not i j other))
    ])

pub written_more : (positions : List Slot) (n k : ℕ) (p : Slot) (now more : List Slot) → get_or positions k None ≡ p → more ≡ noted (place_in n p) k now → now ≡ map (writer positions k) (range_with_len 0 n) → more ≡ map (writer positions (k + 1)) (range_with_len 0 n)
written_more positions n k p now more at m e = by (place_in n p) refl m
  where
    by : (o : Option ℕ) → o ≡ place_in n p → more ≡ noted o k now → more ≡ map (writer positions (k + 1)) (range_with_len 0 n)
    by None out q = q ∙ written_none positions n k p now at out e
    by (Some j) out q = written_some positions n k j p now more at out q e

-- ---- numbers with their marks

pub marked_set : (xs : List ℤ) (marks : List Bool) (i : ℕ) (x : ℤ) → length marks ≡ length xs → marked_slots (set xs i x) (set marks i true) ≡ set (marked_slots xs marks) i (Some x)
marked_set [] marks i x e = refl
marked_set (y ∷ xs) [] i x e = absurd (omega (arith, e))
marked_set (y ∷ xs) (m ∷ marks) zero x e = refl
marked_set (y ∷ xs) (m ∷ marks) (suc i) x e = ap (λ (l : List Slot). marked_slot y m ∷ l) (marked_set xs marks i x (omega (arith, e)))

marked_none : (xs : List ℤ) → marked_slots xs (replicate (length xs) false) ≡ replicate (length xs) None
marked_none [] = refl
marked_none (x ∷ xs) = ap (λ (l : List Slot). None ∷ l) (marked_none xs)

pub written_start : (positions : List Slot) (xs : List ℤ) (marks : List Bool) → marks ≡ replicate (length xs) false → marked_slots xs marks ≡ map (writer positions 0) (range_with_len 0 (length xs))
written_start positions xs marks e =
    ap (marked_slots xs) e ∙ marked_none xs
    ∙ fill_by_all (writer positions 0) (replicate (length xs) None) (length xs) None (length-replicate (length xs) None) (λ i h. get_or-replicate (length xs) i None None h)

-- ---- Partition of a column's slots, none of which is Over

pub partitioned_slots : (pivots : List ℤ) (xs : List Slot) → partitioned_cells pivots (cells_of xs) ≡ Ok (partitioned pivots xs)
partitioned_slots pivots xs = rw (has_over-cells_of xs, slots_in-cells_of xs) refl

pub length_partitioned : (pivots : List ℤ) (xs : List Slot) → length (partitioned pivots xs) ≡ length xs
length_partitioned pivots xs =
    length-map-range_with_len (λ i. partition_place (map (bucket pivots) xs) i (get_or (map (bucket pivots) xs) i None)) 0 (length (map (bucket pivots) xs)) ∙ length-map xs (bucket pivots)

pub partitioned_same : (pivots sorted : List ℤ) (xs : List Slot) → IsPermutation pivots sorted → partitioned sorted xs ≡ partitioned pivots xs
partitioned_same pivots sorted xs h = ap partition_slots (bucketed_same pivots sorted xs h)

abbrev ok : List Slot → Result (List Slot) Over
ok slots = Ok slots

pub places_are : (pivots : List ℤ) (xs places : List Slot) → partitioned_cells pivots (cells_of xs) ≡ Ok places → places ≡ partitioned pivots xs
places_are pivots xs places h = let e : ok places ≡ ok (partitioned pivots xs) = sym h ∙ partitioned_slots pivots xs in cc

pub never_over : (pivots : List ℤ) (xs : List Slot) → partitioned_cells pivots (cells_of xs) ≡ Err over → ⊥
never_over pivots xs h = let e : ok (partitioned pivots xs) ≡ Err over = sym (partitioned_slots pivots xs) ∙ h in absurd cc
