use Rattle.lowered_premises.proofs.Shapes.{shape_laws}
use Rattle.lowered_premises.proofs.laws.shape_laws.Goals as goal

pub returns : goal.returns
returns c = shape_laws c.loaded_fit.ensures c.never_over.ensures
