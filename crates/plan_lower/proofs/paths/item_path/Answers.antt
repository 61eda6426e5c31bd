use Rattle.plan_lower.proofs.Spelled.{path_c}
use Rattle.plan_lower.proofs.paths.item_path.Goals as goal

pub numbered-requires-clause-path : goal.numbered-requires-clause-path
numbered-requires-clause-path c = path_c
