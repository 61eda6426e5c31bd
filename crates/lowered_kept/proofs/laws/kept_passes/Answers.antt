use Rattle.lowered_kept.proofs.Passed.{kept_passes}
use Rattle.lowered_kept.proofs.laws.kept_passes.Goals as goal

pub returns : goal.returns
returns c = kept_passes c.value_passes.ensures
