use Rattle.rel_plan.proofs.Worked.{grouped}
use Rattle.rel_plan.proofs.laws.grouped.Goals as goal

pub returns : goal.returns
returns c = grouped
