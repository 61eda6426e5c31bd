use Rattle.std.proofs.Common.{◌≡◌, ◌+◌, ◌≤◌, length}
use Rattle.control_plan.specs.Lines.{lines}
use Rattle.control_plan.specs.Plans.{usual}
use Rattle.control_plan.specs.Reading.{none_given, read_lines}
use Rattle.control_plan.specs.Settings.{so_far}
use Rattle.control_plan.proofs.reading.read_control.Given as goal

abbrev pub invariant-lines : goal.invariant-lines
invariant-lines l = record {
  so_far : read_lines (lines l.rest) l.number (so_far l.plan l.given) ≡ read_lines (lines l.fn.bytes) 1 (so_far usual none_given);
  from : 1 ≤ l.number;
  room : l.number + length l.rest ≤ length l.fn.bytes + 1;
}

abbrev pub decreases-lines : goal.decreases-lines
decreases-lines l = length l.rest
