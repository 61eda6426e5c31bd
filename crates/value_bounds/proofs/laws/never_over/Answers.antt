use Rattle.value_bounds.proofs.Values.{never_over}
use Rattle.value_bounds.proofs.laws.never_over.Goals as goal

pub returns : goal.returns
returns c = never_over
