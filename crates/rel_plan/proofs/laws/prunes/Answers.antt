use Rattle.rel_plan.proofs.Worked.{prunes}
use Rattle.rel_plan.proofs.laws.prunes.Goals as goal

pub returns : goal.returns
returns c = prunes
