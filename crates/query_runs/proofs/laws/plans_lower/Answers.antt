use Rattle.query_runs.proofs.Plans.{plans_lower}
use Rattle.query_runs.proofs.laws.plans_lower.Goals as goal

pub returns : goal.returns
returns c = plans_lower c.answer_law.ensures c.well_formed_laws.ensures c.size_laws.ensures c.size_law.ensures c.column_law.ensures c.scales_law.ensures c.lowerable_law.ensures
