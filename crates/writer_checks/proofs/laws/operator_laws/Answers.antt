use Rattle.writer_checks.proofs.Passing.{operator_laws}
use Rattle.writer_checks.proofs.laws.operator_laws.Goals as goal

pub returns : goal.returns
returns c = operator_laws
