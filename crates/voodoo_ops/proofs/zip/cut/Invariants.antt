use Rattle.std.proofs.Common.{◌≡◌, ◌++◌}
use Rattle.std.specs.Vec.Iter.{into_iter_items}
use Rattle.voodoo_ops.specs.Columns.{fronts}
use Rattle.voodoo_ops.proofs.zip.cut.Given as goal

abbrev pub invariant-loop-path : goal.invariant-loop-path
invariant-loop-path l = l.fronts.items ++ fronts l.n (into_iter_items l.path-iterator) ≡ fronts l.n l.fn.attributes.items
