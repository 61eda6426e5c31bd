use Rattle.query_answers.proofs.Worked.{decimals}
use Rattle.query_answers.proofs.laws.decimals.Goals as goal

pub returns : goal.returns
returns c = decimals
