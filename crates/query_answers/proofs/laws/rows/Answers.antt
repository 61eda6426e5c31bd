use Rattle.query_answers.proofs.Worked.{rows}
use Rattle.query_answers.proofs.laws.rows.Goals as goal

pub returns : goal.returns
returns c = rows
