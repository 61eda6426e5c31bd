use Rattle.value_bounds.proofs.Values.{value_law}
use Rattle.value_bounds.proofs.laws.value_law.Goals as goal

pub returns : goal.returns
returns c = value_law
