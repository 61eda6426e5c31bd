use Rattle.std.proofs.Common.{◌≡◌}
use Rattle.std.specs.Map.{lookup}
use Rattle.std.specs.Str.{bytes_eq}
use Rattle.std.specs.Vec.Iter.{into_iter_items}
use Rattle.voodoo_ops.proofs.attributes.column_of.Given as goal

abbrev pub invariant-loop-path : goal.invariant-loop-path
invariant-loop-path l = lookup (bytes_eq l.q) (into_iter_items l.path-iterator) ≡ lookup (bytes_eq l.q) l.fn.v.attributes
