use Rattle.group_lower.proofs.Spelled.{path_run_mark}
use Rattle.group_lower.proofs.paths.run_mark_path.Goals as goal

pub of-requires : goal.of-requires
of-requires c = path_run_mark
