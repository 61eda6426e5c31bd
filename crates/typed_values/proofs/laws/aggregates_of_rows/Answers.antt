use Rattle.typed_values.proofs.Evaluations.{of_rows}
use Rattle.typed_values.proofs.laws.aggregates_of_rows.Goals as goal

pub returns : goal.returns
returns c = of_rows
