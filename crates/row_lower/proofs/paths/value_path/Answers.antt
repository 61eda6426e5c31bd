use Rattle.row_lower.proofs.Spelled.{path_v}
use Rattle.row_lower.proofs.paths.value_path.Goals as goal

pub numbered-requires-clause-path : goal.numbered-requires-clause-path
numbered-requires-clause-path c = path_v
