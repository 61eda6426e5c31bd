use Rattle.query_types.proofs.Worked.{first_refusals}
use Rattle.query_types.proofs.laws.first_refusals.Goals as goal

pub returns : goal.returns
returns c = first_refusals
