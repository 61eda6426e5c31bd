use Rattle.query_answers.proofs.Strict.{kept_laws}
use Rattle.query_answers.proofs.laws.kept_laws.Goals as goal

pub returns : goal.returns
returns c = kept_laws
