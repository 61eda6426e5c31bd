use Rattle.sql_read.proofs.Examples.{worked_schemas}
use Rattle.sql_read.proofs.laws.worked_schemas.Goals as goal

pub returns : goal.returns
returns c = worked_schemas
