use Rattle.lowered_premises.proofs.Places.{places_law}
use Rattle.lowered_premises.proofs.laws.places_law.Goals as goal

pub returns : goal.returns
returns c = places_law
