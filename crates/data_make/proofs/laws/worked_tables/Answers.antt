use Rattle.data_make.proofs.Worked.{worked}
use Rattle.data_make.proofs.laws.worked_tables.Goals as goal

pub returns : goal.returns
returns c = worked c.date_law.ensures.printed
