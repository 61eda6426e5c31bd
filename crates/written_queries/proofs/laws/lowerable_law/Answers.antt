use Rattle.written_queries.proofs.Lowerable.{lowerable_law}
use Rattle.written_queries.proofs.laws.lowerable_law.Goals as goal

pub returns : goal.returns
returns c = lowerable_law c.plan_written.ensures c.well_formed_laws.ensures c.answer_law.ensures
