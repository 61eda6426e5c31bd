use Rattle.std.proofs.Common.{refl}
use Rattle.sql_values.proofs.laws.text_examples.Goals as goal

pub returns : goal.returns
returns c = refl
