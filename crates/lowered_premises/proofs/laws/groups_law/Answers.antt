use Rattle.lowered_premises.proofs.Groups.{groups_law}
use Rattle.lowered_premises.proofs.laws.groups_law.Goals as goal

pub returns : goal.returns
returns c = groups_law c.columns_fit.ensures c.columns_are_sized.ensures c.kind_law.ensures c.known_law.ensures
