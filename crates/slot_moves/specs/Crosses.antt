-- Cross: the places of the pairs of n places and m, the former first in order (Voodoo, PVLDB 9(14), 2016, table 2).
use Rattle.std.specs.Prelude.{ℕ, pos, ◌*◌, ◌/◌, ◌%◌, List, map, Some}
use Rattle.std.specs.List.{range_with_len}
use Rattle.control_vectors.specs.Slots.{Slot}

-- the place of the first of each pair, and of the second
abbrev pub left_places : ℕ → ℕ → List Slot
left_places n m = map (λ i. Some (pos (i / m))) (range_with_len 0 (n * m))

abbrev pub right_places : ℕ → ℕ → List Slot
right_places n m = map (λ i. Some (pos (i % m))) (range_with_len 0 (n * m))
