use Rattle.std.proofs.Common.{◌≡◌, ◌++◌, ◌+◌, ◌≤◌, length}
use Rattle.std.specs.Prelude.{slice_range}
use Rattle.std.specs.List.{range_with_len}
use Rattle.slot_folds.specs.Folds.{chosen}
use Rattle.slot_folds.specs.Jobs.{places_of}
use Rattle.slot_folds.proofs.pushing.push_places.Given as goal

abbrev pub invariant-loop-i : goal.invariant-loop-i
invariant-loop-i l = record {
  room : l.builder.room ≡ l.initial.builder.room;
  slots : l.builder.slots ≡ l.initial.builder.slots ++ places_of (chosen l.values.slots (slice_range (range_with_len 0 (length l.values.slots)) l.from l.i));
  count : l.kept ≡ length (chosen l.values.slots (slice_range (range_with_len 0 (length l.values.slots)) l.from l.i));
  few : l.kept + l.from ≤ l.i;
}
