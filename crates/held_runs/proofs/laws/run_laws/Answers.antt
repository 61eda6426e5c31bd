use Rattle.held_runs.proofs.Heads.{run_laws}
use Rattle.held_runs.proofs.laws.run_laws.Goals as goal

pub returns : goal.returns
returns g c = run_laws _
