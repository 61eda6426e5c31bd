use Rattle.typed_trees.proofs.Scaled.{scale_law}
use Rattle.typed_trees.proofs.laws.scale_law.Goals as goal

pub returns : goal.returns
returns c = scale_law
