use Rattle.std.proofs.Common.{◌≡◌, ◌≤◌, ◌++◌, ℕ, List, length}
use Rattle.std.specs.Io.KnownBytes.{Appends}
use Rattle.io_edge.specs.Sinks.{concatenated}
use Rattle.io_edge.proofs.writing.write_pieces.Given as goal

abbrev pub invariant-pieces : goal.invariant-pieces
invariant-pieces g l =
    let s = g.O.Sink in
    record {
      later : s.faults l.fn.out ≤ s.faults l.out;
      done : List ℕ;
      written : Appends (s.written l.fn.out) (s.written l.out) done;
      whole : concatenated l.fn.pieces ≡ done ++ concatenated l.rest;
    }

abbrev pub decreases-pieces : goal.decreases-pieces
decreases-pieces g l = length l.rest
