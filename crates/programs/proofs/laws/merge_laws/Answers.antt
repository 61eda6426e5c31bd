use Rattle.programs.proofs.Unions.{merge_laws}
use Rattle.programs.proofs.laws.merge_laws.Goals as goal

pub returns : goal.returns
returns c = merge_laws
