use Rattle.plan_laws.proofs.Weights.{size_laws}
use Rattle.plan_laws.proofs.laws.size_laws.Goals as goal

pub returns : goal.returns
returns c = size_laws
