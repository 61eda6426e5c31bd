use Rattle.written_queries.proofs.Plans.{plan_written}
use Rattle.written_queries.proofs.laws.plan_written.Goals as goal

pub returns : goal.returns
returns c = plan_written c.written_law.ensures c.size_laws.ensures
