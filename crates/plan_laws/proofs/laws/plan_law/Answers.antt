use Rattle.plan_laws.proofs.Kept.{plan_law}
use Rattle.plan_laws.proofs.laws.plan_law.Goals as goal

pub returns : goal.returns
returns c = plan_law
