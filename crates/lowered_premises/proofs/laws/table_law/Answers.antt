use Rattle.lowered_premises.proofs.Rows.{table_law}
use Rattle.lowered_premises.proofs.laws.table_law.Goals as goal

pub returns : goal.returns
returns c = table_law c.columns_fit.ensures c.columns_are_sized.ensures
