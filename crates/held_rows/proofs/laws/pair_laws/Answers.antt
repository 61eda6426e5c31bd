use Rattle.held_rows.proofs.Paired.{pair_laws}
use Rattle.held_rows.proofs.laws.pair_laws.Goals as goal

pub returns : goal.returns
returns g c = pair_laws
