use Rattle.std.proofs.Common.{◌-◌, ◌≤◌}
use Rattle.std.specs.Io.KnownBytes.{Appends}
use Rattle.row_print.specs.Results.{rows_text, place_rows, slots_in}
use Rattle.row_print.proofs.results.write_places.Given as goal

abbrev pub invariant-pieces : goal.invariant-pieces
invariant-pieces g l = (l.from ≤ l.len) × (g.O.Sink.faults l.fn.out ≤ g.O.Sink.faults l.out) × Appends (g.O.Sink.written l.fn.out) (g.O.Sink.written l.out) (rows_text (place_rows (slots_in l.columns) 0 l.from))

abbrev pub decreases-pieces : goal.decreases-pieces
decreases-pieces g l = l.len - l.from
