-- Bucket and Partition (Voodoo, PVLDB 9(14), 2016, table 2; what empty slots give is this project's own).
use Rattle.std.specs.Prelude.{ℕ, ◌+◌, ℤ, pos, int_lt, Bool, false, not, List, length, map, take, count_by, slice_index_or, if◌then◌else◌, Some, None, Result, Ok, Err}
use Rattle.std.specs.List.{range_with_len}
use Rattle.std.specs.Ordering.{int_eq}
use Rattle.control_vectors.specs.Slots.{Slot, Cell, over, has_over, slots_in}
use Rattle.control_vectors.specs.declared.Over.{Over}

-- how many of the pivots are not above a number
abbrev pub not_above : List ℤ → ℤ → ℕ
not_above pivots x = count_by (λ p. not (int_lt x p)) pivots

-- the bucket of a key: empty for an empty one
abbrev pub bucket : List ℤ → Slot → Slot
bucket pivots None = None
bucket pivots (Some x) = Some (pos (not_above pivots x))

-- whether a bucket is nonempty and lower than b, and whether it is b
abbrev pub is_lower : ℤ → Slot → Bool
is_lower b None = false
is_lower b (Some c) = int_lt c b

abbrev pub is_same : ℤ → Slot → Bool
is_same b None = false
is_same b (Some c) = int_eq c b

-- where a place goes: how many have a lower bucket, plus how many earlier ones have the same
abbrev pub partition_place : List Slot → ℕ → Slot → Slot
partition_place buckets i None = None
partition_place buckets i (Some b) = Some (pos (count_by (is_lower b) buckets + count_by (is_same b) (take i buckets)))

abbrev pub partition_slots : List Slot → List Slot
partition_slots buckets = map (λ i. partition_place buckets i (slice_index_or buckets i None)) (range_with_len 0 (length buckets))

abbrev pub partitioned : List ℤ → List Slot → List Slot
partitioned pivots keys = partition_slots (map (bucket pivots) keys)

-- the same over cells: Over where one of them is
abbrev pub partitioned_cells : List ℤ → List Cell → Result (List Slot) Over
partitioned_cells pivots keys = if has_over keys then Err over else Ok (partitioned pivots (slots_in keys))
