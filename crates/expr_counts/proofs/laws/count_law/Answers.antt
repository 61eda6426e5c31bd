use Rattle.expr_counts.proofs.Counted.{count_law}
use Rattle.expr_counts.proofs.laws.count_law.Goals as goal

pub returns : goal.returns
returns c = count_law
