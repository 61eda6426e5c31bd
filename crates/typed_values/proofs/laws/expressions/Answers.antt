use Rattle.typed_values.proofs.Evaluations.{whole}
use Rattle.typed_values.proofs.laws.expressions.Goals as goal

pub returns : goal.returns
returns c = whole
