use Rattle.std.proofs.Common.{◌≡◌, drop}
use Rattle.std.specs.List.{zip}
use Rattle.std.specs.Map.{lookup}
use Rattle.std.specs.Str.{bytes_eq}
use Rattle.struct_vectors.proofs.vectors.StructVector.column_at.Given as goal

abbrev pub invariant-loop-i : goal.invariant-loop-i
invariant-loop-i l =
    lookup (bytes_eq l.path) (drop l.i (zip l.self-inside.paths.items l.self-inside.columns.items)) ≡ lookup (bytes_eq l.path) l.self.attributes
