use Rattle.plan_lower.proofs.Spelled.{path_key}
use Rattle.plan_lower.proofs.paths.order_path.Goals as goal

pub numbered-requires-clause-path : goal.numbered-requires-clause-path
numbered-requires-clause-path c = path_key
