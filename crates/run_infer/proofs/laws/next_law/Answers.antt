use Rattle.run_infer.proofs.MarkLaws.{one_next}
use Rattle.run_infer.proofs.laws.next_law.Goals as goal

pub returns : goal.returns
returns c = one_next
