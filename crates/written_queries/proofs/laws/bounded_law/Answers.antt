use Rattle.written_queries.proofs.Texts.{bounded_law}
use Rattle.written_queries.proofs.laws.bounded_law.Goals as goal

pub returns : goal.returns
returns c = bounded_law
