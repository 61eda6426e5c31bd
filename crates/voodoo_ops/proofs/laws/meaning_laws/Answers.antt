use Rattle.voodoo_ops.proofs.Compositions.{meaning_laws}
use Rattle.voodoo_ops.proofs.laws.meaning_laws.Goals as goal

pub returns : goal.returns
returns c = meaning_laws
