use Rattle.run_laws.proofs.ExpectedAnswers.{expected_law}
use Rattle.run_laws.proofs.laws.expected_law.Goals as goal

pub returns : goal.returns
returns c = expected_law
