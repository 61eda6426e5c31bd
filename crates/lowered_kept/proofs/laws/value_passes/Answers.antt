use Rattle.lowered_kept.proofs.Passed.{value_passes}
use Rattle.lowered_kept.proofs.laws.value_passes.Goals as goal

pub returns : goal.returns
returns c = value_passes c.count_law.ensures
