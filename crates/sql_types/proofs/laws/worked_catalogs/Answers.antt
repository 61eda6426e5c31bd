use Rattle.sql_types.proofs.Examples.{worked_catalogs}
use Rattle.sql_types.proofs.laws.worked_catalogs.Goals as goal

pub returns : goal.returns
returns c = worked_catalogs
