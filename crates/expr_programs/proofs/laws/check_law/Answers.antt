use Rattle.expr_programs.proofs.Whole.{check_law}
use Rattle.expr_programs.proofs.laws.check_law.Goals as goal

pub returns : goal.returns
returns c = check_law
