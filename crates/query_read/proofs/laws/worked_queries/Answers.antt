use Rattle.query_read.proofs.Examples.{worked_queries}
use Rattle.query_read.proofs.laws.worked_queries.Goals as goal

pub returns : goal.returns
returns c = worked_queries
