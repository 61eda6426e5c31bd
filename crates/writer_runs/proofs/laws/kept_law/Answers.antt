use Rattle.writer_runs.proofs.Composed.{kept_law}
use Rattle.writer_runs.proofs.laws.kept_law.Goals as goal

pub returns : goal.returns
returns c = kept_law
