use Rattle.program_writers.proofs.Routes.{path_val}
use Rattle.program_writers.proofs.paths.val.Goals as goal

pub of-requires : goal.of-requires
of-requires c = path_val
