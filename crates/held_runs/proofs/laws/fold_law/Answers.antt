use Rattle.held_runs.proofs.Folded.{fold_law}
use Rattle.held_runs.proofs.laws.fold_law.Goals as goal

pub returns : goal.returns
returns g c = fold_law _
