use Rattle.programs.proofs.ReachLemmas.{reach_laws}
use Rattle.programs.proofs.laws.reach_laws.Goals as goal

pub returns : goal.returns
returns c = reach_laws
