use Rattle.held_groups.proofs.Sorted.{sort_law}
use Rattle.held_groups.proofs.laws.sort_law.Goals as goal

pub returns : goal.returns
returns c = sort_law
