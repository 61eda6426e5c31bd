use Rattle.query_answers.proofs.Groups.{run_laws}
use Rattle.query_answers.proofs.laws.run_laws.Goals as goal

pub returns : goal.returns
returns c = run_laws
