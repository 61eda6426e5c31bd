use Rattle.typed_values.proofs.Ranges.{narrow}
use Rattle.typed_values.proofs.laws.narrow.Goals as goal

pub returns : goal.returns
returns c = narrow
