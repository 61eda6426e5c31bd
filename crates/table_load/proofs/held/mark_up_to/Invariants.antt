use Rattle.std.proofs.Common.{◌≡◌, ◌≤◌, ◌-◌, ◌++◌, ℕ, length, true, replicate}
use Rattle.table_load.proofs.held.mark_up_to.Given as goal

abbrev pub invariant-loop-marks : goal.invariant-loop-marks
invariant-loop-marks l = record {
  grown : (k : ℕ) × (l.marks.items ≡ l.fn.marks.items ++ replicate k true);
  within : length l.marks.items ≤ l.count;
}

abbrev pub decreases-loop-marks : goal.decreases-loop-marks
decreases-loop-marks l = l.count - length l.marks.items
