use Rattle.written_queries.proofs.Queries.{written_law}
use Rattle.written_queries.proofs.laws.written_law.Goals as goal

pub returns : goal.returns
returns c = written_law c.bounded_law.ensures
