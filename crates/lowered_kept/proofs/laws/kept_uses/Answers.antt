use Rattle.lowered_kept.proofs.Reached.{kept_uses}
use Rattle.lowered_kept.proofs.laws.kept_uses.Goals as goal

pub returns : goal.returns
returns c = kept_uses
