use Rattle.lowered_kept.proofs.Stated.{value_uses}
use Rattle.lowered_kept.proofs.laws.value_uses.Goals as goal

pub returns : goal.returns
returns c = value_uses
