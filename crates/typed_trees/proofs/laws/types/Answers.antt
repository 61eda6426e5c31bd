use Rattle.typed_trees.proofs.Worked.{types}
use Rattle.typed_trees.proofs.laws.types.Goals as goal

pub returns : goal.returns
returns c = types
