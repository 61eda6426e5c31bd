use Rattle.std.proofs.Common.{◌≡◌, take}
use Rattle.voodoo_ops.specs.Columns.{fronts}
use Rattle.voodoo_ops.proofs.zip.copied_fronts.Given as goal

abbrev pub invariant-loop-attribute : goal.invariant-loop-attribute
invariant-loop-attribute l = l.fronts.items ≡ fronts l.n (take l.attribute-index l.attribute-items)
