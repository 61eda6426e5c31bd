-- Gather, Scatter, Bucket and Cross over a stretch of places, from lists of cells: Over where a cell is that is read, else the operator of slot_moves on the slots.
use Rattle.std.specs.Prelude.{◌≡◌, ℕ, ◌/◌, ◌%◌, min, ℤ, pos, ◌-ℤ◌, Bool, ◌||◌, List, length, map, take, drop, slice_set, if◌then◌else◌, Option, Some, None, Result, Ok, Err}
use Rattle.std.specs.List.{range_with_len}
use Rattle.std.specs.Option.{option_map}
use Rattle.control_vectors.specs.Slots.{Slot, Cell, over, has_over, slots_in}
use Rattle.control_vectors.specs.declared.Over.{Over}
use Rattle.sort_order.specs.Buckets.{bucket}
use Rattle.slot_moves.specs.Moves.{gathered, writer}

-- so many elements from a place on
abbrev pub stretch : {A : Type 0} → List A → ℕ → ℕ → List A
stretch xs first n = take n (drop first xs)

-- ---- Gather: the whole source is read, and the positions of the stretch
abbrev pub gathered_cells : List Cell → List Cell → Result (List Slot) Over
gathered_cells source positions = if has_over source || has_over positions then Err over else Ok (gathered (slots_in source) (slots_in positions))

abbrev pub gathered_from : List Cell → List Cell → ℕ → ℕ → Result (List Slot) Over
gathered_from source positions first n = gathered_cells source (stretch positions first n)

-- ---- Scatter: both are read whole; at each place of the stretch the slot of its writer
abbrev pub scattered_slots : List Slot → List Slot → ℕ → ℕ → List Slot
scattered_slots xs positions first n = gathered xs (map (writer positions (min (length xs) (length positions))) (range_with_len first n))

abbrev pub scattered_from : List Cell → List Cell → ℕ → ℕ → Result (List Slot) Over
scattered_from source positions first n = if has_over source || has_over positions then Err over else Ok (scattered_slots (slots_in source) (slots_in positions) first n)

-- ---- Bucket: the keys of the stretch are read
abbrev pub bucketed_cells : List ℤ → List Cell → Result (List Slot) Over
bucketed_cells pivots keys = if has_over keys then Err over else Ok (map (bucket pivots) (slots_in keys))

abbrev pub bucketed_from : List ℤ → List Cell → ℕ → ℕ → Result (List Slot) Over
bucketed_from pivots keys first n = bucketed_cells pivots (stretch keys first n)

-- ---- Cross: of each pair the first one's place, or the second one's
abbrev pub side_of : Bool → ℕ → ℕ → ℕ
side_of left m i = if left then i / m else i % m

abbrev pub crossed_from : ℕ → Bool → ℕ → ℕ → List Slot
crossed_from m left first n = map (λ i. Some (pos (side_of left m i))) (range_with_len first n)

-- ---- what a kernel says of what it was to write: it wrote just these slots, or it answers Over where Over is meant
abbrev pub Writes : Result (Unit {0}) Over → Result (List Slot) Over → List Slot → Type 0
Writes (Ok u) meant out = meant ≡ Ok out
Writes (Err e) meant out = meant ≡ Err over

-- ---- a position as it is counted from a place, and slots with one more at a place, if there is one
abbrev pub counted_from : ℕ → Slot → Slot
counted_from first p = option_map (λ z. z -ℤ pos first) p

abbrev pub put_at : Option ℕ → Slot → List Slot → List Slot
put_at None s slots = slots
put_at (Some i) s slots = slice_set slots i s
