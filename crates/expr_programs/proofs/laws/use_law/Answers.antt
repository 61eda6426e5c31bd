use Rattle.expr_programs.proofs.Used.{use_law}
use Rattle.expr_programs.proofs.laws.use_law.Goals as goal

pub returns : goal.returns
returns c = use_law
