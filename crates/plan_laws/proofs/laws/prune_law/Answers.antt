use Rattle.plan_laws.proofs.Kept.{prune_law}
use Rattle.plan_laws.proofs.laws.prune_law.Goals as goal

pub returns : goal.returns
returns c = prune_law
