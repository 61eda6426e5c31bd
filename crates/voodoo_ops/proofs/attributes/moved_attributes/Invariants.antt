use Rattle.std.specs.Vec.Iter.{into_iter_items}
use Rattle.voodoo_ops.proofs.Listed.{Moving}
use Rattle.voodoo_ops.proofs.attributes.moved_attributes.Given as goal

abbrev pub invariant-loop-path : goal.invariant-loop-path
invariant-loop-path l = Moving l.p l.q l.fn.attributes.items l.moved.items (into_iter_items l.path-iterator)
