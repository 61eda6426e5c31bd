use Rattle.programs.proofs.Limits.{limit_law}
use Rattle.programs.proofs.laws.limit_law.Goals as goal

pub returns : goal.returns
returns c = limit_law
