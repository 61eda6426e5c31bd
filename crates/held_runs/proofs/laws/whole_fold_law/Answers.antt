use Rattle.held_runs.proofs.Whole.{whole_fold_law}
use Rattle.held_runs.proofs.laws.whole_fold_law.Goals as goal

pub returns : goal.returns
returns g c = whole_fold_law _
