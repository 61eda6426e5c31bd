use Rattle.std.proofs.Common.{◌≡◌, ◌-◌, ◌≤◌}
use Rattle.row_print.specs.Results.{rows_text, place_rows, slots_in}
use Rattle.row_print.proofs.results.piece_text.Given as goal

abbrev pub invariant-loop-i : goal.invariant-loop-i
invariant-loop-i l = (l.from ≤ l.i) × (l.text ≡ rows_text (place_rows (slots_in l.columns) l.from (l.i - l.from)))
