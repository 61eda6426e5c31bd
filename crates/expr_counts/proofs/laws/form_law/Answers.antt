use Rattle.expr_counts.proofs.Counted.{form_law}
use Rattle.expr_counts.proofs.laws.form_law.Goals as goal

pub returns : goal.returns
returns c = form_law
