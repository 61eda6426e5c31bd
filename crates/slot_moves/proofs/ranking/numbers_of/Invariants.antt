use Rattle.std.proofs.Common.{◌≡◌, take}
use Rattle.control_vectors.specs.Slots.{numbers}
use Rattle.slot_moves.proofs.ranking.numbers_of.Given as goal

abbrev pub invariant-loop-i : goal.invariant-loop-i
invariant-loop-i l = l.found.items ≡ numbers (take l.i l.column.slots)
