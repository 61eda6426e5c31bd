use Rattle.typed_values.proofs.Ranges.{scaled_intervals}
use Rattle.typed_values.proofs.laws.scaled_intervals.Goals as goal

pub returns : goal.returns
returns c = scaled_intervals
