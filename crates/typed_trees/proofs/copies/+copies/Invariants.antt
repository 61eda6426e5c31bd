use Rattle.std.proofs.Common.{◌≡◌, take}
use Rattle.typed_trees.proofs.copies.+copies.Given as goal

abbrev pub invariant-items-loop-e : goal.invariant-items-loop-e
invariant-items-loop-e l = l.copies ≡ take l.e-index l.all
