use Rattle.std.proofs.Common.{◌≡◌, ◌++◌, length}
use Rattle.query_read.specs.Marked.{marked, marked_after}
use Rattle.query_read.proofs.marking.marked.Given as goal

abbrev pub invariant-loop-ahead : goal.invariant-loop-ahead
invariant-loop-ahead l = l.out.items ++ marked_after l.before l.last l.ahead ≡ marked l.tokens

abbrev pub decreases-loop-ahead : goal.decreases-loop-ahead
decreases-loop-ahead l = length l.ahead
