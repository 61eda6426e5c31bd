use Rattle.voodoo_ops.proofs.RunMarks.{Marking}
use Rattle.voodoo_ops.proofs.run_marks.mark_changes.Given as goal

abbrev pub invariant-loop-i : goal.invariant-loop-i
invariant-loop-i l = Marking l.initial.marks l.marks l.column.slots l.i
