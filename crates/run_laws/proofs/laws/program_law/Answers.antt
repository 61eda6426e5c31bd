use Rattle.run_laws.proofs.ProgramTexts.{program_law}
use Rattle.run_laws.proofs.laws.program_law.Goals as goal

pub returns : goal.returns
returns c = program_law
