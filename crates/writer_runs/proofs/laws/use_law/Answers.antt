use Rattle.writer_runs.proofs.Alike.{use_law}
use Rattle.writer_runs.proofs.laws.use_law.Goals as goal

pub returns : goal.returns
returns c = use_law
