use Rattle.held_rows.proofs.Selected.{select_law}
use Rattle.held_rows.proofs.laws.select_law.Goals as goal

pub returns : goal.returns
returns g c = select_law
