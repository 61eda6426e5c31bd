use Rattle.std.proofs.Common.{◌≡◌, ◌<◌, ℕ, map, length, take}
use Rattle.std.specs.List.{range_with_len}
use Rattle.control_vectors.specs.Slots.{Cell, cells_of}
use Rattle.struct_vectors.specs.Columns.{marked_slots}
use Rattle.slot_columns.proofs.narrow.filled.Given as goal

abbrev pub invariant-loop-i : goal.invariant-loop-i
invariant-loop-i g l = record {
  count : length l.numbers ≡ length l.initial.numbers;
  lengths : length l.marks ≡ length l.numbers;
  so_far : (cell : ℕ → Cell) → ((i : ℕ) (r : Cell) → i < length l.initial.numbers → goal.F-post g l.f i r → r ≡ cell i) → cells_of (marked_slots (take l.i l.numbers) (take l.i l.marks)) ≡ map cell (range_with_len 0 l.i);
}
