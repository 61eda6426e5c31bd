use Rattle.std.proofs.Common.{◌≡◌, take}
use Rattle.typed_trees.proofs.copies.copied_all.Given as goal

abbrev pub invariant-loop-e : goal.invariant-loop-e
invariant-loop-e l = l.copies ≡ take l.e-index l.all
