use Rattle.held_values.proofs.Truths.{truth_laws}
use Rattle.held_values.proofs.laws.truth_laws.Goals as goal

pub returns : goal.returns
returns g c = truth_laws
