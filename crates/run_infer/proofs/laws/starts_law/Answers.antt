use Rattle.run_infer.proofs.MarkLaws.{starts_of_tuples}
use Rattle.run_infer.proofs.laws.starts_law.Goals as goal

pub returns : goal.returns
returns c = starts_of_tuples
