use Rattle.programs.specs.Indexes.{places_of}
use Rattle.last_readers.proofs.Noting.{Reading}
use Rattle.last_readers.proofs.last.last_readers.Given as goal

abbrev pub invariant-loop-i : goal.invariant-loop-i
invariant-loop-i l = Reading (places_of l.places) l.statements l.i

abbrev pub decreases-loop-i : goal.decreases-loop-i
decreases-loop-i l = l.i
