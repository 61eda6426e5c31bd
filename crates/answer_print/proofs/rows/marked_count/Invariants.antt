use Rattle.std.proofs.Common.{◌≡◌, ◌≤◌, length}
use Rattle.std.specs.List.{filter, range_with_len}
use Rattle.answer_print.specs.Held.{is_marked}
use Rattle.answer_print.proofs.rows.marked_count.Given as goal

abbrev pub invariant-loop-i : goal.invariant-loop-i
invariant-loop-i l = (l.count ≡ length (filter (is_marked l.marks.slots) (range_with_len 0 l.i))) × (l.count ≤ l.i)
