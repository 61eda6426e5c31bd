use Rattle.query_answers.proofs.Worked.{nulls}
use Rattle.query_answers.proofs.laws.nulls.Goals as goal

pub returns : goal.returns
returns c = nulls
