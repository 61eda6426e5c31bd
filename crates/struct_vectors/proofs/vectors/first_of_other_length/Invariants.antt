use Rattle.std.proofs.Common.{take}
use Rattle.struct_vectors.specs.Vectors.{HaveLength}
use Rattle.struct_vectors.proofs.vectors.first_of_other_length.Given as goal

abbrev pub invariant-loop-i : goal.invariant-loop-i
invariant-loop-i l = HaveLength l.n (take l.i l.attributes)
