use Rattle.expr_steps.proofs.Worked.{worked}
use Rattle.expr_steps.proofs.laws.worked.Goals as goal

pub returns : goal.returns
returns c = worked
