use Rattle.value_laws.proofs.Alike.{names_law}
use Rattle.value_laws.proofs.laws.names_law.Goals as goal

pub returns : goal.returns
returns c = names_law
