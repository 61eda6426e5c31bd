use Rattle.typed_values.proofs.Ranges.{scaled_narrow}
use Rattle.typed_values.proofs.laws.scaled_narrow.Goals as goal

pub returns : goal.returns
returns c = scaled_narrow
