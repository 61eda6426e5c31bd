use Rattle.query_answers.proofs.Worked.{totals}
use Rattle.query_answers.proofs.laws.totals.Goals as goal

pub returns : goal.returns
returns c = totals
