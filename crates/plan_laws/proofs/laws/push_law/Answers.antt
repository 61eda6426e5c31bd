use Rattle.plan_laws.proofs.Pushed.{push_law}
use Rattle.plan_laws.proofs.laws.push_law.Goals as goal

pub returns : goal.returns
returns c = push_law c.names_law.ensures
