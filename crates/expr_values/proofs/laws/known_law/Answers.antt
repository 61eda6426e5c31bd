use Rattle.expr_values.proofs.Whole.{known_law}
use Rattle.expr_values.proofs.laws.known_law.Goals as goal

pub returns : goal.returns
returns c = known_law c.kind_law.ensures
