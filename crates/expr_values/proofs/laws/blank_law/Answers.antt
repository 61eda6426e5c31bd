use Rattle.expr_values.proofs.Blank.{blank_law}
use Rattle.expr_values.proofs.laws.blank_law.Goals as goal

pub returns : goal.returns
returns c = blank_law
