-- The laws of the kernels: a stretch of the whole, and the whole.
use Rattle.std.proofs.Common.{◌≡◌, ℕ, zero, suc, ◌+◌, ◌*◌, ◌/◌, ◌%◌, ◌≤◌, min, ℤ, pos, true, false, List, ◌∷◌, length, map, take, drop, refl, sym, ap, ◌∙◌, arith, Some, Ok}
use Rattle.std.specs.List.{range_with_len}
use Rattle.std.specs.List.Sorted.{IsPermutation}
use Rattle.std.proofs.lemmas.List.{drop-map, length-map, take-map, take_all}
use Rattle.std.proofs.lemmas.List.FromFn.{length-map-range_with_len}
use Rattle.control_vectors.specs.Slots.{Slot, cells_of, numbers}
use Rattle.control_vectors.proofs.SlotLaws.{has_over-cells_of, slots_in-cells_of}
use Rattle.slot_moves.specs.Moves.{gathered, scattered, bucketed, slot_at, writer, writers}
use Rattle.slot_moves.specs.Crosses.{left_places, right_places}
use Rattle.slot_moves.proofs.MoveLaws.{bucketed_same}
use Rattle.sort_order.specs.Buckets.{bucket}
use Rattle.move_kernels.specs.Kernels.{stretch, gathered_cells, gathered_from, scattered_slots, scattered_from, bucketed_cells, bucketed_from, crossed_from}
use Rattle.move_kernels.specs.Laws.{StretchLaws, WholeLaws}

-- ---- stretches of lists
stretch_map : {A B : Type 0} (f : A → B) (xs : List A) (first n : ℕ) → stretch (map f xs) first n ≡ map f (stretch xs first n)
stretch_map f xs first n = ap (take n) (drop-map f first xs) ∙ take-map f n (drop first xs)

first_range : (a size n : ℕ) → n ≤ size → take n (range_with_len a size) ≡ range_with_len a n
first_range a size zero h = refl
first_range a zero (suc n) h = absurd (omega arith)
first_range a (suc size) (suc n) h = ap (λ (l : List ℕ). a ∷ l) (first_range (a + 1) size n (omega arith))

stretch_range : (a size first n : ℕ) → first + n ≤ size → stretch (range_with_len a size) first n ≡ range_with_len (a + first) n
stretch_range a size zero n h = ap (λ b. take n (range_with_len b size)) (let same : a ≡ a + 0 = omega arith in same) ∙ first_range (a + 0) size n (omega arith)
stretch_range a zero (suc first) n h = absurd (omega arith)
stretch_range a (suc size) (suc first) n h =
    let next : a + 1 + first ≡ a + suc first = omega arith in
    stretch_range (a + 1) size first n (omega arith) ∙ ap (λ b. range_with_len b n) next

stretch_all : {A : Type 0} (xs : List A) (n : ℕ) → length xs ≤ n → stretch xs 0 n ≡ xs
stretch_all xs n h = take_all n xs h

-- something for each of the places from 0 on
of_places : {A : Type 0} (f : ℕ → A) (size first n : ℕ) → first + n ≤ size → stretch (map f (range_with_len 0 size)) first n ≡ map f (range_with_len first n)
of_places f size first n h =
    let same : 0 + first ≡ first = omega arith in
    stretch_map f (range_with_len 0 size) first n ∙ ap (map f) (stretch_range 0 size first n h ∙ ap (λ b. range_with_len b n) same)

-- ---- slots none of which is Over
gathered_slots : (xs positions : List Slot) → gathered_cells (cells_of xs) (cells_of positions) ≡ Ok (gathered xs positions)
gathered_slots xs positions = rw (has_over-cells_of xs, has_over-cells_of positions, slots_in-cells_of xs, slots_in-cells_of positions) refl

bucketed_slots : (pivots : List ℤ) (keys : List Slot) → bucketed_cells pivots (cells_of keys) ≡ Ok (map (bucket pivots) keys)
bucketed_slots pivots keys = rw (has_over-cells_of keys, slots_in-cells_of keys) refl

slots_stretch : (xs : List Slot) (first n : ℕ) → stretch (cells_of xs) first n ≡ cells_of (stretch xs first n)
slots_stretch xs first n = stretch_map (λ s. Ok s) xs first n

gather : (xs positions : List Slot) (first n : ℕ) → gathered_from (cells_of xs) (cells_of positions) first n ≡ Ok (stretch (gathered xs positions) first n)
gather xs positions first n =
    ap (gathered_cells (cells_of xs)) (slots_stretch positions first n) ∙ gathered_slots xs (stretch positions first n)
    ∙ ap (λ (l : List Slot). Ok l) (sym (stretch_map (slot_at xs) positions first n))

scatter : (xs positions : List Slot) (first n size : ℕ) → first + n ≤ size → scattered_from (cells_of xs) (cells_of positions) first n ≡ Ok (stretch (scattered size xs positions) first n)
scatter xs positions first n size h =
    whole ∙ ap (λ (l : List Slot). Ok (gathered xs l)) (sym (of_places (writer positions (min (length xs) (length positions))) size first n h))
    ∙ ap (λ (l : List Slot). Ok l) (sym (stretch_map (slot_at xs) (writers size (length xs) positions) first n))
  where
    whole : scattered_from (cells_of xs) (cells_of positions) first n ≡ Ok (scattered_slots xs positions first n)
    whole = rw (has_over-cells_of xs, has_over-cells_of positions, slots_in-cells_of xs, slots_in-cells_of positions) refl

bucket_law : (keys pivots : List Slot) (sorted : List ℤ) (first n : ℕ) → IsPermutation (numbers pivots) sorted → bucketed_from sorted (cells_of keys) first n ≡ Ok (stretch (bucketed keys pivots) first n)
bucket_law keys pivots sorted first n h =
    ap (bucketed_cells sorted) (slots_stretch keys first n) ∙ bucketed_slots sorted (stretch keys first n)
    ∙ ap (λ (l : List Slot). Ok l) (bucketed_same (numbers pivots) sorted (stretch keys first n) h ∙ sym (stretch_map (bucket (numbers pivots)) keys first n))

left : (k m first n : ℕ) → first + n ≤ k * m → crossed_from m true first n ≡ stretch (left_places k m) first n
left k m first n h = sym (of_places (λ i. Some (pos (i / m))) (k * m) first n h)

right : (k m first n : ℕ) → first + n ≤ k * m → crossed_from m false first n ≡ stretch (right_places k m) first n
right k m first n h = sym (of_places (λ i. Some (pos (i % m))) (k * m) first n h)

pub stretch_laws : StretchLaws
stretch_laws = record { gather = gather; scatter = scatter; bucket = bucket_law; left = left; right = right }

-- ---- the whole
pub whole_laws : WholeLaws
whole_laws = record {
  gather = λ xs positions. gather xs positions 0 (length positions) ∙ ap (λ (l : List Slot). Ok l) (stretch_all (gathered xs positions) (length positions) (omega (arith, length-map positions (slot_at xs))));
  scatter = λ xs positions size. scatter xs positions 0 size size (omega arith) ∙ ap (λ (l : List Slot). Ok l) (stretch_all (scattered size xs positions) size (omega (arith, length-map (writers size (length xs) positions) (slot_at xs), length-map-range_with_len (writer positions (min (length xs) (length positions))) 0 size)));
  bucket = λ keys pivots sorted h. bucket_law keys pivots sorted 0 (length keys) h ∙ ap (λ (l : List Slot). Ok l) (stretch_all (bucketed keys pivots) (length keys) (omega (arith, length-map keys (bucket (numbers pivots)))));
  left = λ k m. left k m 0 (k * m) (omega arith) ∙ stretch_all (left_places k m) (k * m) (omega (arith, length-map-range_with_len (λ i. some_place (i / m)) 0 (k * m)));
  right = λ k m. right k m 0 (k * m) (omega arith) ∙ stretch_all (right_places k m) (k * m) (omega (arith, length-map-range_with_len (λ i. some_place (i % m)) 0 (k * m)));
}
  where
    some_place : ℕ → Slot
    some_place i = Some (pos i)
