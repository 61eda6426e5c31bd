use Rattle.expr_scopes.proofs.Whole.{code_law}
use Rattle.expr_scopes.proofs.laws.code_law.Goals as goal

pub returns : goal.returns
returns c = code_law
