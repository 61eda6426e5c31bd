use Rattle.group_lower.proofs.Spelled.{path_run}
use Rattle.group_lower.proofs.paths.run_path.Goals as goal

pub numbered-requires-clause-path : goal.numbered-requires-clause-path
numbered-requires-clause-path c = path_run
