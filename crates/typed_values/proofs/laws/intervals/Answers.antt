use Rattle.typed_values.proofs.Ranges.{intervals}
use Rattle.typed_values.proofs.laws.intervals.Goals as goal

pub returns : goal.returns
returns c = intervals
