use Rattle.rel_plan.proofs.Worked.{pushes}
use Rattle.rel_plan.proofs.laws.pushes.Goals as goal

pub returns : goal.returns
returns c = pushes
