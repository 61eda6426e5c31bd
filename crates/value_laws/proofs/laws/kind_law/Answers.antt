use Rattle.value_laws.proofs.OfKind.{kind_law}
use Rattle.value_laws.proofs.laws.kind_law.Goals as goal

pub returns : goal.returns
returns c = kind_law
