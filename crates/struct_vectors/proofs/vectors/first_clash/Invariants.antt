use Rattle.std.proofs.Common.{ℕ, ◌+◌, ◌<◌}
use Rattle.struct_vectors.specs.Vectors.{ClashAt, paths_of}
use Rattle.struct_vectors.proofs.vectors.first_clash.Given as goal

abbrev pub invariant-loop-i : goal.invariant-loop-i
invariant-loop-i l = (k : ℕ) → k + 1 < l.i → ¬ ClashAt (paths_of l.attributes) k
