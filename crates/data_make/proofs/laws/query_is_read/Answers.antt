use Rattle.data_make.proofs.QueryReads.{query_read, query_typed}
use Rattle.data_make.proofs.laws.query_is_read.Goals as goal

pub returns-clause-read : goal.returns-clause-read
returns-clause-read c = query_read

pub returns-clause-typed : goal.returns-clause-typed
returns-clause-typed c = query_typed
