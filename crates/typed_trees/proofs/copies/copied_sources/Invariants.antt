use Rattle.std.proofs.Common.{◌≡◌, take}
use Rattle.typed_trees.proofs.copies.copied_sources.Given as goal

abbrev pub invariant-loop-s : goal.invariant-loop-s
invariant-loop-s l = l.copies ≡ take l.s-index l.all
