use Rattle.std.proofs.Common.{◌≡◌, ◌+◌, ◌-◌, ◌≤◌, length, drop}
use Rattle.slot_folds.specs.Jobs.{unmarked}
use Rattle.slot_folds.proofs.run_ends.run_end.Given as goal

abbrev pub invariant-loop-to : goal.invariant-loop-to
invariant-loop-to l = record {
  within : l.to ≤ length l.marks;
  end : l.to + unmarked (drop l.to l.marks) ≡ l.from + 1 + unmarked (drop (l.from + 1) l.marks);
}

abbrev pub decreases-loop-to : goal.decreases-loop-to
decreases-loop-to l = length l.marks - l.to
