use Rattle.lowered_items.proofs.Attributes.{path_law}
use Rattle.lowered_items.proofs.laws.path_law.Goals as goal

pub returns : goal.returns
returns c = path_law
