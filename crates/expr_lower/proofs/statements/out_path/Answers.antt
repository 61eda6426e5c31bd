use Rattle.expr_lower.proofs.Paths.{path_out}
use Rattle.expr_lower.proofs.statements.out_path.Goals as goal

pub of-requires : goal.of-requires
of-requires c = path_out
