use Rattle.held_groups.proofs.Heads.{head_laws}
use Rattle.held_groups.proofs.laws.head_laws.Goals as goal

pub returns : goal.returns
returns c = head_laws
