use Rattle.struct_vectors.proofs.VectorLaws.{paths_of-zip}
use Rattle.struct_vectors.proofs.vectors.StructVector.paths.Goals as goal

pub returns-clause-paths : goal.returns-clause-paths
returns-clause-paths c = rw (← c.self.view_is, paths_of-zip c.self.inside.paths.items c.self.inside.columns.items c.self.invariant.0) c.as_slice.ensures.value

pub returns-clause-each : goal.returns-clause-each
returns-clause-each c = rw c.as_slice.ensures.value (rw (paths_of-zip c.self.inside.paths.items c.self.inside.columns.items c.self.invariant.0) at c.self.invariant.1.paths)
