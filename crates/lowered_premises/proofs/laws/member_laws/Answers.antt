use Rattle.lowered_premises.proofs.Members.{member_laws}
use Rattle.lowered_premises.proofs.laws.member_laws.Goals as goal

pub returns : goal.returns
returns c = member_laws
