use Rattle.std.proofs.Common.{◌≡◌, ◌<◌, ◌≤◌, ◌+◌, ◌-◌, length, vec_len}
use Rattle.std.specs.Io.KnownBytes.{Consumes}
use Rattle.io_edge.proofs.reading.read_open.Given as goal

abbrev pub invariant-pieces : goal.invariant-pieces
invariant-pieces g l =
    let s = g.S.Shelf in
    record {
      same : s.holds l.shelf ≡ s.holds l.fn.shelf;
      later : s.faults l.fn.shelf ≤ s.faults l.shelf;
      few : vec_len l.bytes ≤ l.most;
      most : l.most ≡ l.fn.limit + 1;
      room : 0 < length l.piece;
      taken : Consumes (s.left l.fn.shelf) (s.left l.shelf) l.bytes.items;
    }

abbrev pub decreases-pieces : goal.decreases-pieces
decreases-pieces g l = l.most - vec_len l.bytes
