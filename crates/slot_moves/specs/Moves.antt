-- Gather, Scatter and Bucket over lists of slots (Voodoo, PVLDB 9(14), 2016, table 2; what empty slots and positions out of range give is this project's own).
use Rattle.std.specs.Prelude.{ℕ, pos, negsuc, min, nat_lt, Bool, false, List, length, map, filter, slice_index_or, slice_set, Option, Some, None, if◌then◌else◌}
use Rattle.std.specs.List.{range_with_len, last_or}
use Rattle.std.specs.Option.{option_map}
use Rattle.std.specs.Ordering.{int_eq}
use Rattle.control_vectors.specs.Slots.{Slot, numbers}
use Rattle.sort_order.specs.Buckets.{bucket}

-- the slot at a position: empty where that is empty or is no place of the list
abbrev pub slot_at : List Slot → Slot → Slot
slot_at xs None = None
slot_at xs (Some (pos i)) = slice_index_or xs i None
slot_at xs (Some (negsuc i)) = None

abbrev pub gathered : List Slot → List Slot → List Slot
gathered xs positions = map (slot_at xs) positions

-- the place that a position names among n
abbrev pub place_in : ℕ → Slot → Option ℕ
place_in n None = None
place_in n (Some (pos i)) = if nat_lt i n then Some i else None
place_in n (Some (negsuc i)) = None

-- ---- Scatter: at each place the last of those that name it

-- whether a position is the place i
abbrev pub is_place : ℕ → Slot → Bool
is_place i None = false
is_place i (Some p) = int_eq p (pos i)

-- those of the first k whose position is i, in order
abbrev pub writers_to : List Slot → ℕ → ℕ → List ℕ
writers_to positions k i = filter (λ j. is_place i (slice_index_or positions j None)) (range_with_len 0 k)

-- the last of them, or empty
abbrev pub writer : List Slot → ℕ → ℕ → Slot
writer positions k i = option_map pos (last_or None (writers_to positions k i))

-- slots with a number more, at a place if there is one
abbrev pub noted : Option ℕ → ℕ → List Slot → List Slot
noted None j slots = slots
noted (Some i) j slots = slice_set slots i (Some (pos j))

-- for each of n places its writer among so many sources
abbrev pub writers : ℕ → ℕ → List Slot → List Slot
writers n sources positions = map (writer positions (min sources (length positions))) (range_with_len 0 n)

abbrev pub scattered : ℕ → List Slot → List Slot → List Slot
scattered n xs positions = gathered xs (writers n (length xs) positions)

-- ---- Bucket: how many nonempty pivots are not above the key

abbrev pub bucketed : List Slot → List Slot → List Slot
bucketed keys pivots = map (bucket (numbers pivots)) keys
