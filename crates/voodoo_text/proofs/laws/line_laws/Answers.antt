use Rattle.voodoo_text.proofs.LineLaws.{line_laws}
use Rattle.voodoo_text.proofs.laws.line_laws.Goals as goal

pub returns : goal.returns
returns c = line_laws
