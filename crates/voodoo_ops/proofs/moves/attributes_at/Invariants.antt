use Rattle.std.proofs.Common.{◌≡◌, take}
use Rattle.programs.specs.Vectors.{seen_attributes}
use Rattle.voodoo_ops.specs.Moves.{moved_to}
use Rattle.voodoo_ops.proofs.moves.attributes_at.Given as goal

abbrev pub invariant-loop-attribute : goal.invariant-loop-attribute
invariant-loop-attribute l = seen_attributes l.attributes.items ≡ moved_to l.places.slots (seen_attributes (take l.attribute-index l.attribute-items))
