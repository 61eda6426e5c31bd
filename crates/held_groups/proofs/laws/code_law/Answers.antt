use Rattle.held_groups.proofs.Codes.{code_law}
use Rattle.held_groups.proofs.laws.code_law.Goals as goal

pub returns : goal.returns
returns c = code_law
