use Rattle.typing_laws.proofs.Queries.{column_law}
use Rattle.typing_laws.proofs.laws.column_law.Goals as goal

pub returns : goal.returns
returns c = column_law
