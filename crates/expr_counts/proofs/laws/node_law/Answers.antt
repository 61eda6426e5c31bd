use Rattle.expr_counts.proofs.Counted.{node_law}
use Rattle.expr_counts.proofs.laws.node_law.Goals as goal

pub returns : goal.returns
returns c = node_law
