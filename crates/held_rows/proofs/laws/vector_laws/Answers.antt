use Rattle.held_rows.proofs.VectorLaws.{vector_laws}
use Rattle.held_rows.proofs.laws.vector_laws.Goals as goal

pub returns : goal.returns
returns g c = vector_laws
