use Rattle.programs.specs.Indexes.{places_of}
use Rattle.programs.proofs.Marks.{Marked}
use Rattle.programs.proofs.reach.reached_marks.Given as goal

abbrev pub invariant-loop-i : goal.invariant-loop-i
invariant-loop-i l = Marked l.marks.items l.statements (places_of l.wanted) l.i

abbrev pub decreases-loop-i : goal.decreases-loop-i
decreases-loop-i l = l.i
