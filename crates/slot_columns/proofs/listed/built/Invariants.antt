use Rattle.std.proofs.Common.{◌≡◌, ◌<◌, ℕ, map, length}
use Rattle.std.specs.List.{range_with_len}
use Rattle.control_vectors.specs.Slots.{Cell, cells_of}
use Rattle.slot_columns.proofs.listed.built.Given as goal

abbrev pub invariant-loop-i : goal.invariant-loop-i
invariant-loop-i g l = record {
  room : l.builder.room ≡ l.n;
  count : length l.builder.slots ≡ l.i;
  so_far : (cell : ℕ → Cell) → ((i : ℕ) (r : Cell) → i < l.n → goal.F-post g l.f i r → r ≡ cell i) → cells_of l.builder.slots ≡ map cell (range_with_len 0 l.i);
}
