use Rattle.run_laws.proofs.Tables.{table_law}
use Rattle.run_laws.proofs.laws.table_law.Goals as goal

pub returns : goal.returns
returns c = table_law
