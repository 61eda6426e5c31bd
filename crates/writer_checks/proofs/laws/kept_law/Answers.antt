use Rattle.writer_checks.proofs.Composing.{kept_law}
use Rattle.writer_checks.proofs.laws.kept_law.Goals as goal

pub returns : goal.returns
returns c = kept_law
