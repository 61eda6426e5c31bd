use Rattle.query_shapes.proofs.Queries.{shape_law}
use Rattle.query_shapes.proofs.laws.shape_law.Goals as goal

pub returns : goal.returns
returns c = shape_law
