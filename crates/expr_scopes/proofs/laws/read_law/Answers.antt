use Rattle.expr_scopes.proofs.Whole.{read_law}
use Rattle.expr_scopes.proofs.laws.read_law.Goals as goal

pub returns : goal.returns
returns c = read_law
