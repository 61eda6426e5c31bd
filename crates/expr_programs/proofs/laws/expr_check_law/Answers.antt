use Rattle.expr_programs.proofs.Whole.{expr_check_law}
use Rattle.expr_programs.proofs.laws.expr_check_law.Goals as goal

pub returns : goal.returns
returns c = expr_check_law
