use Rattle.lowered_group_checks.proofs.GroupsUsed.{groups_used}
use Rattle.lowered_group_checks.proofs.laws.use_law.Goals as goal

pub returns : goal.returns
returns c = groups_used
