use Rattle.lowered_premises.proofs.FewColumns.{few_columns_law}
use Rattle.lowered_premises.proofs.plans.few_columns_law.Goals as goal

pub returns : goal.returns
returns c = few_columns_law c.column_law.ensures
