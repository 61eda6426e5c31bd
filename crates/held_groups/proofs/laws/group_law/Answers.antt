use Rattle.held_groups.proofs.Groups.{group_law, member_law}
use Rattle.held_groups.proofs.laws.group_law.Goals as goal

pub returns : goal.returns
returns c = record { groups = group_law; members = member_law }
