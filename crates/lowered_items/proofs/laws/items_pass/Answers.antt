use Rattle.lowered_items.proofs.ItemsPass.{all_items_pass}
use Rattle.lowered_items.proofs.laws.items_pass.Goals as goal

pub returns : goal.returns
returns c = all_items_pass
