use Rattle.std.proofs.Common.{refl}
use Rattle.sql_values.proofs.laws.value_examples.Goals as goal

pub returns : goal.returns
returns c = refl
