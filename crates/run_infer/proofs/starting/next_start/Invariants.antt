use Rattle.std.proofs.Common.{◌≡◌, ℕ, ◌-◌, ◌<◌, ◌≤◌, length, Some, false}
use Rattle.std.specs.Prelude.{slice_get}
use Rattle.run_infer.proofs.starting.next_start.Given as goal

abbrev pub invariant-loop-next : goal.invariant-loop-next
invariant-loop-next g l =
    let marks = g.M.RunMarks.marks l.marks in
    record {
      above : l.after < l.next;
      within : l.next ≤ length marks;
      between : (k : ℕ) → l.after < k → k < l.next → slice_get marks k ≡ Some false;
    }

abbrev pub decreases-loop-next : goal.decreases-loop-next
decreases-loop-next g l = l.count - l.next
