use Rattle.expr_scopes.proofs.Whole.{scope_law}
use Rattle.expr_scopes.proofs.laws.scope_law.Goals as goal

pub returns : goal.returns
returns c = scope_law
