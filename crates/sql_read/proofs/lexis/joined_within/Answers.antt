use Rattle.std.proofs.Common.{sym, ◌∙◌}
use Rattle.sql_read.proofs.Digits.{none_joined}
use Rattle.sql_read.proofs.lexis.joined_within.Goals as goal

pub returns-in-None : goal.returns-in-None
returns-in-None c = none_joined c.args.whole.now c.args.part.now (sym c.integer_within.ensures ∙ c.in-None.is)
