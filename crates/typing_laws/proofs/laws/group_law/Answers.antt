use Rattle.typing_laws.proofs.Queries.{group_law}
use Rattle.typing_laws.proofs.laws.group_law.Goals as goal

pub returns : goal.returns
returns c = group_law
