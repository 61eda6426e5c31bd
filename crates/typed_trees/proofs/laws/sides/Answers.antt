use Rattle.typed_trees.proofs.Worked.{sides}
use Rattle.typed_trees.proofs.laws.sides.Goals as goal

pub returns : goal.returns
returns c = sides
