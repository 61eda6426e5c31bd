use Rattle.civil_days.proofs.Examples.{worked_dates}
use Rattle.civil_days.proofs.laws.worked_dates.Goals as goal

pub returns : goal.returns
returns c = worked_dates
