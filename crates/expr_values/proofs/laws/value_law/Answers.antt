use Rattle.expr_values.proofs.Whole.{value_law}
use Rattle.expr_values.proofs.laws.value_law.Goals as goal

pub returns : goal.returns
returns c = value_law c.kind_law.ensures
