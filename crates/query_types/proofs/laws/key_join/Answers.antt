use Rattle.query_types.proofs.Worked.{key_join}
use Rattle.query_types.proofs.laws.key_join.Goals as goal

pub returns : goal.returns
returns c = key_join
