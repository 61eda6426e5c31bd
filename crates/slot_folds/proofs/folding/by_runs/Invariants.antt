use Rattle.std.proofs.Common.{length, ◌-◌, ◌≡◌, ◌++◌, ◌≤◌}
use Rattle.control_vectors.specs.Slots.{cells_of}
use Rattle.slot_folds.specs.Jobs.{job_from}
use Rattle.slot_folds.proofs.folding.by_runs.Given as goal

abbrev pub invariant-loop-from : goal.invariant-loop-from
invariant-loop-from l = record {
  room : l.builder.room ≡ length l.values.slots;
  within : l.from ≤ length l.marks;
  count : length l.builder.slots ≡ l.from;
  so_far : cells_of l.builder.slots ++ job_from l.job l.marks l.values.slots l.from ≡ job_from l.job l.marks l.values.slots 0;
}

abbrev pub decreases-loop-from : goal.decreases-loop-from
decreases-loop-from l = length l.marks - l.from
