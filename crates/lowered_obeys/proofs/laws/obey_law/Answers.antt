use Rattle.lowered_obeys.proofs.Obey.{obey_law}
use Rattle.lowered_obeys.proofs.laws.obey_law.Goals as goal

pub returns : goal.returns
returns c = obey_law c.source_law.ensures c.column_law.ensures c.places_law.ensures
