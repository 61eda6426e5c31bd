use Rattle.written_queries.proofs.Scales.{scales_law}
use Rattle.written_queries.proofs.laws.scales_law.Goals as goal

pub returns : goal.returns
returns c = scales_law c.columns_are_sized.ensures
