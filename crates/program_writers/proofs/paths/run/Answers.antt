use Rattle.program_writers.proofs.Routes.{path_run}
use Rattle.program_writers.proofs.paths.run.Goals as goal

pub of-requires : goal.of-requires
of-requires c = path_run
