use Rattle.writer_runs.proofs.Composed.{operator_laws}
use Rattle.writer_runs.proofs.laws.operator_laws.Goals as goal

pub returns : goal.returns
returns c = operator_laws
