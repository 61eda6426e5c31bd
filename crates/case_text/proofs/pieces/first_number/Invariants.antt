use Rattle.std.proofs.Common.{◌≤◌}
use Rattle.case_text.proofs.pieces.first_number.Given as goal

abbrev pub invariant-loop-b : goal.invariant-loop-b
invariant-loop-b l = l.number ≤ 4294967295
