use Rattle.query_types.proofs.Worked.{scales}
use Rattle.query_types.proofs.laws.scales.Goals as goal

pub returns-clause-expressions : goal.returns-clause-expressions
returns-clause-expressions c = scales
