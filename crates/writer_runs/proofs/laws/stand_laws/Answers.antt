use Rattle.writer_runs.proofs.Standing.{stand_laws}
use Rattle.writer_runs.proofs.laws.stand_laws.Goals as goal

pub returns : goal.returns
returns c = stand_laws
