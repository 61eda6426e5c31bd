use Rattle.std.proofs.Common.{◌≡◌, ◌++◌, length}
use Rattle.query_read.specs.Literals.{single_quoted}
use Rattle.query_read.proofs.literals.single_quoted.Given as goal

abbrev pub invariant-loop-ahead : goal.invariant-loop-ahead
invariant-loop-ahead l = l.out.items ++ single_quoted l.ahead ≡ single_quoted l.z

abbrev pub decreases-loop-ahead : goal.decreases-loop-ahead
decreases-loop-ahead l = length l.ahead
