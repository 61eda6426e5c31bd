use Rattle.lowered_rows.proofs.Checks.{rows_passes}
use Rattle.lowered_rows.proofs.laws.rows_passes.Goals as goal

pub returns : goal.returns
returns c = rows_passes
