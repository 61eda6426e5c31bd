use Rattle.std.proofs.Common.{take}
use Rattle.std.specs.List.{All}
use Rattle.key_paths.specs.Paths.{IsPath}
use Rattle.struct_vectors.proofs.vectors.see_paths.Given as goal

abbrev pub invariant-loop-attribute : goal.invariant-loop-attribute
invariant-loop-attribute l = All (λ a. IsPath a.0) (take l.attribute-index l.attributes)
