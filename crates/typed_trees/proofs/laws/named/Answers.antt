use Rattle.typed_trees.proofs.Worked.{named}
use Rattle.typed_trees.proofs.laws.named.Goals as goal

pub returns : goal.returns
returns c = named
