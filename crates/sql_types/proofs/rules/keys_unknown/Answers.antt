use Rattle.std.proofs.Common.{arith}
use Rattle.std.proofs.lemmas.Grind.{common_steps}
use Rattle.sql_types.specs.Catalog.{is_unknown, key_unknown}
use Rattle.sql_types.proofs.FindingFolds.{first_from-picked}
use Rattle.sql_types.proofs.rules.keys_unknown.Goals as goal

pub returns : goal.returns
returns c = rw (first_from-picked (is_unknown c.args.t.now) key_unknown c.args.first c.args.t.now.keys) (grind (arith, common_steps))
