use Rattle.writer_checks.proofs.Going.{still_has}
use Rattle.writer_checks.proofs.laws.still_law.Goals as goal

pub returns : goal.returns
returns c = still_has
