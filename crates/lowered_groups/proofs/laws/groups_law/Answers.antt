use Rattle.lowered_groups.proofs.GroupsMade.{groups_run}
use Rattle.lowered_groups.proofs.laws.groups_law.Goals as goal

pub returns : goal.returns
returns c = groups_run
