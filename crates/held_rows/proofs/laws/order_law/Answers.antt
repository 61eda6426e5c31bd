use Rattle.held_rows.proofs.Sorted.{order_law}
use Rattle.held_rows.proofs.laws.order_law.Goals as goal

pub returns : goal.returns
returns g c = order_law
