use Rattle.writer_runs.proofs.Used.{used_laws}
use Rattle.writer_runs.proofs.laws.used_laws.Goals as goal

pub returns : goal.returns
returns c = used_laws
