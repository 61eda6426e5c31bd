use Rattle.held_values.proofs.Lifted.{lift_laws}
use Rattle.held_values.proofs.laws.lift_laws.Goals as goal

pub returns : goal.returns
returns g c = lift_laws
