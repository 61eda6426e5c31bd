use Rattle.lowered_premises.proofs.Sources.{source_law}
use Rattle.lowered_premises.proofs.laws.source_law.Goals as goal

pub returns : goal.returns
returns c = source_law
