use Rattle.std.proofs.Common.{◌≡◌, take}
use Rattle.held_vectors.proofs.held.copied_attributes.Given as goal

abbrev pub invariant-loop-k : goal.invariant-loop-k
invariant-loop-k l = l.copies.items ≡ take l.k l.v.attributes
