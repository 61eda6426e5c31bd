use Rattle.query_answers.proofs.Worked.{steps}
use Rattle.query_answers.proofs.laws.steps.Goals as goal

pub returns : goal.returns
returns c = steps
