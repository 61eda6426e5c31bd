use Rattle.voodoo_text.proofs.Examples.{worked_lines}
use Rattle.voodoo_text.proofs.laws.worked_lines.Goals as goal

pub returns : goal.returns
returns c = worked_lines
