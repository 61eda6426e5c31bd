use Rattle.query_answers.proofs.Plans.{plan_laws}
use Rattle.query_answers.proofs.laws.plan_laws.Goals as goal

pub returns : goal.returns
returns c = plan_laws
