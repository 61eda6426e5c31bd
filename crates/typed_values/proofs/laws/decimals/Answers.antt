use Rattle.typed_values.proofs.Evaluations.{decimals}
use Rattle.typed_values.proofs.laws.decimals.Goals as goal

pub returns : goal.returns
returns c = decimals
