use Rattle.std.proofs.Common.{◌-◌, ◌≤◌}
use Rattle.std.specs.Io.KnownBytes.{Appends}
use Rattle.answer_print.specs.Shown.{seen_items, shown_text}
use Rattle.answer_print.proofs.rows.write_rows.Given as goal

abbrev pub invariant-pieces : goal.invariant-pieces
invariant-pieces g l = (l.from ≤ l.len) × (g.O.Sink.faults l.fn.out ≤ g.O.Sink.faults l.out) × Appends (g.O.Sink.written l.fn.out) (g.O.Sink.written l.out) (shown_text l.dictionary (seen_items l.items) 0 l.from)

abbrev pub decreases-pieces : goal.decreases-pieces
decreases-pieces g l = l.len - l.from
