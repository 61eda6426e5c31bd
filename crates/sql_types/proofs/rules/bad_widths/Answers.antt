use Rattle.std.proofs.Common.{arith}
use Rattle.std.proofs.lemmas.Grind.{common_steps}
use Rattle.sql_types.specs.Catalog.{bad_width}
use Rattle.sql_types.specs.Widths.{is_bad_width}
use Rattle.sql_types.proofs.FindingFolds.{first_from-picked}
use Rattle.sql_types.proofs.rules.bad_widths.Goals as goal

pub returns : goal.returns
returns c = rw (first_from-picked is_bad_width bad_width c.args.first c.args.t.now.columns) (grind (arith, common_steps))
