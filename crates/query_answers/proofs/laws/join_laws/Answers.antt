use Rattle.query_answers.proofs.Joins.{join_laws}
use Rattle.query_answers.proofs.laws.join_laws.Goals as goal

pub returns : goal.returns
returns c = join_laws
