use Rattle.expr_programs.proofs.Whole.{expr_run_law}
use Rattle.expr_programs.proofs.laws.expr_run_law.Goals as goal

pub returns : goal.returns
returns c = expr_run_law
