use Rattle.lowered_premises.proofs.Rows.{rows_law}
use Rattle.lowered_premises.proofs.laws.rows_law.Goals as goal

pub returns : goal.returns
returns c = rows_law c.columns_fit.ensures c.columns_are_sized.ensures
