use Rattle.std.proofs.Common.{◌≡◌, take}
use Rattle.typed_trees.proofs.copies.copied_aggregates.Given as goal

abbrev pub invariant-loop-a : goal.invariant-loop-a
invariant-loop-a l = l.copies ≡ take l.a-index l.all
