use Rattle.run_laws.proofs.QueryTexts.{query_law}
use Rattle.run_laws.proofs.laws.query_law.Goals as goal

pub returns : goal.returns
returns c = query_law
