use Rattle.expr_programs.proofs.Whole.{run_law}
use Rattle.expr_programs.proofs.laws.run_law.Goals as goal

pub returns : goal.returns
returns c = run_law
