use Rattle.table_load.proofs.TypeLaws.{columns_fit}
use Rattle.table_load.proofs.laws.columns_fit.Goals as goal

pub returns : goal.returns
returns c = columns_fit
