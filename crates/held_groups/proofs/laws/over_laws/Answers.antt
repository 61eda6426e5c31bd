use Rattle.held_groups.proofs.Overs.{each_row_law, some_row_law, groups_on_law}
use Rattle.held_groups.proofs.laws.over_laws.Goals as goal

pub returns : goal.returns
returns c = record { each_row = each_row_law; some_row = some_row_law; groups_on = groups_on_law }
