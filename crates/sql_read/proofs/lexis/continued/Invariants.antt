use Rattle.std.proofs.Common.{◌≡◌, length}
use Rattle.sql_read.specs.Lexis.{digits_after}
use Rattle.sql_read.proofs.lexis.continued.Given as goal

abbrev pub invariant-loop-z : goal.invariant-loop-z
invariant-loop-z l = digits_after l.value l.z ≡ digits_after l.start l.initial.z

abbrev pub decreases-loop-z : goal.decreases-loop-z
decreases-loop-z l = length l.z
