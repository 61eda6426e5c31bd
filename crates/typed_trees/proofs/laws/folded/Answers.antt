use Rattle.typed_trees.proofs.Worked.{folded}
use Rattle.typed_trees.proofs.laws.folded.Goals as goal

pub returns : goal.returns
returns c = folded
