use Rattle.run_laws.proofs.TypedQueries.{typing_law}
use Rattle.run_laws.proofs.laws.typing_law.Goals as goal

pub returns : goal.returns
returns c = typing_law
