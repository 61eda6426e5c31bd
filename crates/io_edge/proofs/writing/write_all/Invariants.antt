use Rattle.std.proofs.Common.{◌≤◌, ◌-◌, length, take}
use Rattle.std.specs.Io.KnownBytes.{Appends}
use Rattle.io_edge.proofs.writing.write_all.Given as goal

abbrev pub invariant-pieces : goal.invariant-pieces
invariant-pieces g l =
    let s = g.O.Sink in
    record {
      later : s.faults l.fn.out ≤ s.faults l.out;
      within : l.done ≤ length l.text;
      written : Appends (s.written l.fn.out) (s.written l.out) (take l.done l.text);
    }

abbrev pub decreases-pieces : goal.decreases-pieces
decreases-pieces g l = length l.text - l.done
