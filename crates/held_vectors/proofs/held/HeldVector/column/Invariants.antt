use Rattle.std.proofs.Common.{◌≡◌, drop}
use Rattle.std.specs.Map.{lookup}
use Rattle.std.specs.Str.{bytes_eq}
use Rattle.held_vectors.proofs.held.HeldVector.column.Given as goal

abbrev pub invariant-loop-attribute : goal.invariant-loop-attribute
invariant-loop-attribute l = lookup (bytes_eq l.p) (drop l.attribute-index l.attribute-items) ≡ lookup (bytes_eq l.p) l.self.attributes
