use Rattle.read_queries.proofs.Answered.{answer_law}
use Rattle.read_queries.proofs.laws.answer_law.Goals as goal

pub returns : goal.returns
returns c = answer_law
