use Rattle.program_writers.proofs.Routes.{path_mark}
use Rattle.program_writers.proofs.paths.mark.Goals as goal

pub of-requires : goal.of-requires
of-requires c = path_mark
