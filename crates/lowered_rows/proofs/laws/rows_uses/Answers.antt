use Rattle.lowered_rows.proofs.Uses.{rows_uses}
use Rattle.lowered_rows.proofs.laws.rows_uses.Goals as goal

pub returns : goal.returns
returns c = rows_uses
