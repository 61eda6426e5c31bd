use Rattle.std.proofs.Common.{◌≡◌, ◌++◌, ◌+◌, length}
use Rattle.std.specs.Prelude.{slice_range}
use Rattle.control_vectors.specs.Slots.{cells_of}
use Rattle.slot_folds.proofs.StretchLaws.{Summed}
use Rattle.slot_folds.proofs.PushLaws.{scan_front}
use Rattle.slot_folds.proofs.pushing.push_scan.Given as goal

abbrev pub invariant-loop-k : goal.invariant-loop-k
invariant-loop-k l = record {
  room : l.builder.room ≡ l.initial.builder.room;
  count : length l.builder.slots ≡ length l.initial.builder.slots + l.k;
  slots : cells_of l.builder.slots ≡ cells_of l.initial.builder.slots ++ scan_front (slice_range l.values.slots l.from l.to) l.k;
  total : Summed (slice_range l.values.slots l.from (l.from + l.k)) l.total;
}
