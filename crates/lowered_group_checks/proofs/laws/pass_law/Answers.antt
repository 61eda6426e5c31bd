use Rattle.lowered_group_checks.proofs.WholePass.{groups_pass}
use Rattle.lowered_group_checks.proofs.laws.pass_law.Goals as goal

pub returns : goal.returns
returns c = groups_pass
