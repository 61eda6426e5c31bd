use Rattle.query_sizes.proofs.Sizes.{size_law}
use Rattle.query_sizes.proofs.laws.size_law.Goals as goal

pub returns : goal.returns
returns c = size_law
