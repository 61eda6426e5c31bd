use Rattle.held_groups.proofs.Members.{group_rows, group_cell_law}
use Rattle.held_groups.proofs.laws.member_laws.Goals as goal

pub returns : goal.returns
returns c = record { rows = group_rows; cell = group_cell_law }
