use Rattle.programs.proofs.CheckLemmas.{check_laws}
use Rattle.programs.proofs.laws.check_laws.Goals as goal

pub returns : goal.returns
returns c = check_laws
