use Rattle.expr_programs.proofs.Whole.{expr_use_law}
use Rattle.expr_programs.proofs.laws.expr_use_law.Goals as goal

pub returns : goal.returns
returns c = expr_use_law
