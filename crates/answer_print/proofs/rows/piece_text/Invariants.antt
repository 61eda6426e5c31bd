use Rattle.std.proofs.Common.{◌≡◌, ◌-◌, ◌≤◌}
use Rattle.answer_print.specs.Shown.{seen_items, shown_text}
use Rattle.answer_print.proofs.rows.piece_text.Given as goal

abbrev pub invariant-loop-i : goal.invariant-loop-i
invariant-loop-i l = (l.from ≤ l.i) × (l.rows ≡ shown_text l.dictionary (seen_items l.items) l.from (l.i - l.from))
