use Rattle.writer_runs.proofs.Shown.{result_laws}
use Rattle.writer_runs.proofs.laws.result_laws.Goals as goal

pub returns : goal.returns
returns c = result_laws
