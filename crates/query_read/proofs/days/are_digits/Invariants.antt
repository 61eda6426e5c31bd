use Rattle.std.proofs.Common.{◌≡◌, length}
use Rattle.std.specs.Char.{is_ascii_digit}
use Rattle.std.specs.List.{list_all}
use Rattle.query_read.proofs.days.are_digits.Given as goal

abbrev pub invariant-loop-z : goal.invariant-loop-z
invariant-loop-z l = list_all is_ascii_digit l.z ≡ list_all is_ascii_digit l.initial.z

abbrev pub decreases-loop-z : goal.decreases-loop-z
decreases-loop-z l = length l.z
