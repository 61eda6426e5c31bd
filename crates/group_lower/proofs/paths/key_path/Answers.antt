use Rattle.group_lower.proofs.Spelled.{path_k}
use Rattle.group_lower.proofs.paths.key_path.Goals as goal

pub numbered-requires-clause-path : goal.numbered-requires-clause-path
numbered-requires-clause-path c = path_k
