use Rattle.control_laws.proofs.ClosedLaws.{closed_laws}
use Rattle.control_laws.proofs.laws.closed_law.Goals as goal

pub returns : goal.returns
returns c = closed_laws
