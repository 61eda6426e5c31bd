use Rattle.std.proofs.Common.{◌≡◌, take}
use Rattle.voodoo_ops.specs.Handing.{on_side}
use Rattle.voodoo_ops.proofs.attributes.copied_attributes.Given as goal

abbrev pub invariant-loop-attribute : goal.invariant-loop-attribute
invariant-loop-attribute l = l.copies.items ≡ on_side l.side l.p (take l.attribute-index l.attribute-items)
