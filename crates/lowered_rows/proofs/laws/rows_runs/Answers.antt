use Rattle.lowered_rows.proofs.Runs.{rows_runs}
use Rattle.lowered_rows.proofs.laws.rows_runs.Goals as goal

pub returns : goal.returns
returns c = rows_runs
