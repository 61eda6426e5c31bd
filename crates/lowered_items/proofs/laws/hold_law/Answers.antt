use Rattle.lowered_items.proofs.Alone.{hold_law}
use Rattle.lowered_items.proofs.laws.hold_law.Goals as goal

pub returns : goal.returns
returns c = hold_law
