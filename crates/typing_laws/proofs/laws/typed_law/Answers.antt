use Rattle.typing_laws.proofs.Queries.{typed_law}
use Rattle.typing_laws.proofs.laws.typed_law.Goals as goal

pub returns : goal.returns
returns c = typed_law
