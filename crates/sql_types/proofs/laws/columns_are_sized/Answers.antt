use Rattle.sql_types.proofs.Sizes.{sized}
use Rattle.sql_types.proofs.laws.columns_are_sized.Goals as goal

pub returns : goal.returns
returns c = sized
