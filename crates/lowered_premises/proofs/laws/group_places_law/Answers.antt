use Rattle.lowered_premises.proofs.Places.{group_places_law}
use Rattle.lowered_premises.proofs.laws.group_places_law.Goals as goal

pub returns : goal.returns
returns c = group_places_law
