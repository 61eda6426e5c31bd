-- The writers of a stretch: those of the whole Scatter, counted from its first place.
use Rattle.std.proofs.Common.{◌≡◌, ℕ, zero, suc, ◌+◌, ℤ, pos, ◌-ℤ◌, Bool, true, false, ◌||◌, List, [], ◌∷◌, length, map, take, drop, min, get_or, set, replicate, refl, sym, ap, ◌∙◌, arith, Option, Some, None, Result, Ok, Err}
use Rattle.std.specs.Prelude.{filter}
use Rattle.std.specs.List.{range_with_len, last_or}
use Rattle.std.specs.Option.{option_map}
use Rattle.std.specs.Ordering.{int_eq}
use Rattle.std.proofs.lemmas.Int.{ints}
use Rattle.std.proofs.lemmas.Bool.Decides.{Decides-int_eq, Decides-like, same_from_decides}
use Rattle.std.proofs.lemmas.List.{map-set}
use Rattle.std.proofs.lemmas.List.FromFn.{fill_by_all, get_or-map-range_with_len, length-map-range_with_len, length-range_with_len}
use Rattle.control_vectors.specs.Slots.{Slot, Cell, over, has_over, slots_in}
use Rattle.control_vectors.specs.declared.Over.{Over}
use Rattle.sort_order.specs.Answers.{Clear}
use Rattle.sort_order.proofs.CellLaws.{length_slots}
use Rattle.slot_moves.specs.Moves.{gathered, is_place, noted, place_in, slot_at, writer}
use Rattle.slot_moves.proofs.MoveLaws.{written_more}
use Rattle.move_kernels.specs.Kernels.{Writes, counted_from, put_at, scattered_from, scattered_slots}
use Rattle.move_kernels.proofs.Stretches.{clear_both, meant_over, meant_slots, or_first, or_neither, or_second, over_behind}

-- ---- positions that are counted from a place
place_counted : (first i : ℕ) (p : Slot) → is_place i (counted_from first p) ≡ is_place (first + i) p
place_counted first i None = refl
place_counted first i (Some z) =
    same_from_decides (int_eq (z -ℤ pos first) (pos i)) (int_eq z (pos (first + i))) (Decides-int_eq (z -ℤ pos first) (pos i))
    (Decides-like (int_eq z (pos (first + i))) (λ e. there z first i e) (λ e. back z first i e) (Decides-int_eq z (pos (first + i))))
  where
    there : (z : ℤ) (first i : ℕ) → z ≡ pos (first + i) → z -ℤ pos first ≡ pos i
    there z first i e = omega (arith, ints)

    back : (z : ℤ) (first i : ℕ) → z -ℤ pos first ≡ pos i → z ≡ pos (first + i)
    back z first i e = omega (arith, ints)

get_counted : (first : ℕ) (positions : List Slot) (j : ℕ) → get_or (map (counted_from first) positions) j None ≡ counted_from first (get_or positions j None)
get_counted first [] j = refl
get_counted first (p ∷ positions) zero = refl
get_counted first (p ∷ positions) (suc j) = get_counted first positions j

filter_same : (p q : ℕ → Bool) (places : List ℕ) → ((j : ℕ) → p j ≡ q j) → filter p places ≡ filter q places
filter_same p q [] e = refl
filter_same p q (j ∷ places) e = rw (e j, filter_same p q places e) refl

writer_counted : (first : ℕ) (positions : List Slot) (k i : ℕ) → writer (map (counted_from first) positions) k i ≡ writer positions k (first + i)
writer_counted first positions k i =
    ap (λ (l : List ℕ). option_map pos (last_or None l)) (filter_same (λ j. is_place i (get_or (map (counted_from first) positions) j None)) (λ j. is_place (first + i) (get_or positions j None)) (range_with_len 0 k)
    (λ j. ap (is_place i) (get_counted first positions j) ∙ place_counted first i (get_or positions j None)))

-- ---- the writers of so many places, among the first so many sources
abbrev pub writers_of : List Slot → ℕ → ℕ → ℕ → List Slot
writers_of positions k first n = map (writer positions k) (range_with_len first n)

writers_counted : (first : ℕ) (positions : List Slot) (k n : ℕ) → writers_of (map (counted_from first) positions) k 0 n ≡ writers_of positions k first n
writers_counted first positions k n =
    sym (fill_by_all (writer (map (counted_from first) positions) k) (writers_of positions k first n) n None (length-map-range_with_len (writer positions k) first n)
    (λ i h. get_or-map-range_with_len (writer positions k) first n i (first + i) None h refl ∙ sym (writer_counted first positions k i)))

-- ---- the slots so far: one source more
no_writers : (positions : List Slot) (places : List ℕ) → map (writer positions 0) places ≡ replicate (length places) None
no_writers positions [] = refl
no_writers positions (i ∷ places) = ap (λ (l : List Slot). None ∷ l) (no_writers positions places)

gathered_none : (xs : List Slot) (n : ℕ) → gathered xs (replicate n None) ≡ replicate n None
gathered_none xs zero = refl
gathered_none xs (suc n) = ap (λ (l : List Slot). None ∷ l) (gathered_none xs n)

pub scattered_none : (xs positions : List Slot) (first n : ℕ) → replicate n None ≡ gathered xs (writers_of positions 0 first n)
scattered_none xs positions first n =
    sym (ap (gathered xs) (no_writers positions (range_with_len first n) ∙ ap (λ k. replicate k None) (length-range_with_len first n)) ∙ gathered_none xs n)

gathered_noted : (xs : List Slot) (o : Option ℕ) (k : ℕ) (s : Slot) (now : List Slot) → s ≡ get_or xs k None → gathered xs (noted o k now) ≡ put_at o s (gathered xs now)
gathered_noted xs None k s now e = refl
gathered_noted xs (Some i) k s now e = map-set (slot_at xs) now i (Some (pos k)) ∙ ap (set (gathered xs now) i) (sym e)

pub scattered_more : (xs positions : List Slot) (first n k : ℕ) (p s : Slot) (out more : List Slot) → get_or positions k None ≡ p → s ≡ get_or xs k None → more ≡ put_at (place_in n (counted_from first p)) s out → out ≡ gathered xs (writers_of positions k first n) → more ≡ gathered xs (writers_of positions (k + 1) first n)
scattered_more xs positions first n k p s out more at slot m e =
    let counted = map (counted_from first) positions in
    let q = counted_from first p in
    let now = writers_of counted k 0 n in
    let next = written_more counted n k q now (noted (place_in n q) k now) (get_counted first positions k ∙ ap (counted_from first) at) refl refl in
    m ∙ ap (put_at (place_in n q) s) (e ∙ ap (gathered xs) (sym (writers_counted first positions k n)))
    ∙ sym (gathered_noted xs (place_in n q) k s now slot)
    ∙ ap (gathered xs) (next ∙ writers_counted first positions (k + 1) n)

-- ---- what is meant, over cells
pub meant_of : (source positions : List Cell) (first n j : ℕ) (out : List Slot) → has_over source ≡ false → has_over positions ≡ false → j ≡ min (length source) (length positions) → out ≡ gathered (slots_in source) (writers_of (slots_in positions) j first n) → scattered_from source positions first n ≡ Ok out
meant_of source positions first n j out a b m e =
    meant_slots (has_over source || has_over positions) (Err over) (Ok (scattered_slots (slots_in source) (slots_in positions) first n)) (or_neither (has_over source) (has_over positions) a b)
    ∙ ap (λ (l : List Slot). Ok l) (ap (λ k. gathered (slots_in source) (writers_of (slots_in positions) k first n)) count ∙ sym e)
  where
    count : min (length (slots_in source)) (length (slots_in positions)) ≡ j
    count = omega (arith, length_slots source a, length_slots positions b, m)

pub over_first : (source positions : List Cell) (first n : ℕ) → has_over source ≡ true → scattered_from source positions first n ≡ Err over
over_first source positions first n e =
    meant_over (has_over source || has_over positions) (Err over) (Ok (scattered_slots (slots_in source) (slots_in positions) first n)) (or_first (has_over source) (has_over positions) e)

pub over_second : (source positions : List Cell) (first n : ℕ) → has_over positions ≡ true → scattered_from source positions first n ≡ Err over
over_second source positions first n e =
    meant_over (has_over source || has_over positions) (Err over) (Ok (scattered_slots (slots_in source) (slots_in positions) first n)) (or_second (has_over source) (has_over positions) e)

-- the rest of the positions is read last
pub writes_last : (r : Result (Unit {0}) Over) (source positions : List Cell) (first n j : ℕ) (out : List Slot) → Clear r (has_over (drop j positions)) → has_over source ≡ false → has_over (take j positions) ≡ false → j ≡ min (length source) (length positions) → out ≡ gathered (slots_in source) (writers_of (slots_in positions) j first n) → Writes r (scattered_from source positions first n) out
writes_last (Ok u) source positions first n j out h a b m e = meant_of source positions first n j out a (clear_both positions j b h) m e
writes_last (Err v) source positions first n j out h a b m e = over_second source positions first n (over_behind positions j b h)
