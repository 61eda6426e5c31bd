use Rattle.lowered_items.proofs.ItemsUsed.{items_use}
use Rattle.lowered_items.proofs.laws.items_use.Goals as goal

pub returns : goal.returns
returns c = items_use
