use Rattle.lowered_premises.proofs.Columns.{column_law}
use Rattle.lowered_premises.proofs.laws.column_law.Goals as goal

pub returns : goal.returns
returns c = column_law
