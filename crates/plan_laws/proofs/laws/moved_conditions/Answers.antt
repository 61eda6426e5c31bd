use Rattle.plan_laws.proofs.Worked.{moved_conditions}
use Rattle.plan_laws.proofs.laws.moved_conditions.Goals as goal

pub returns : goal.returns
returns c = moved_conditions
