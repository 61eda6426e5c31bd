use Rattle.query_read.proofs.LiteralLaws.{literal_law}
use Rattle.query_read.proofs.laws.literal_law.Goals as goal

pub returns : goal.returns
returns c = literal_law
