use Rattle.read_queries.proofs.Groups.{groups_law}
use Rattle.read_queries.proofs.laws.groups_law.Goals as goal

pub returns : goal.returns
returns c = groups_law
