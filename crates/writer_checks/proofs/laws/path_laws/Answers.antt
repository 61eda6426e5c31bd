use Rattle.writer_checks.proofs.Routes.{path_laws}
use Rattle.writer_checks.proofs.laws.path_laws.Goals as goal

pub returns : goal.returns
returns c = path_laws
