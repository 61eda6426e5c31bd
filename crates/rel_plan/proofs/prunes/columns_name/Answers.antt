use Rattle.std.proofs.Common.{arith}
use Rattle.std.proofs.lemmas.Grind.{common_steps}
use Rattle.rel_plan.specs.Prunes.{same_column}
use Rattle.rel_plan.proofs.Anywhere.{any_column}
use Rattle.rel_plan.proofs.prunes.columns_name.Goals as goal

pub returns-then-groups_name : goal.returns-then-groups_name
returns-then-groups_name c = rw (any_column (same_column c.args.c) c.args.p.now) (grind (arith, common_steps))

pub returns-else-groups_name : goal.returns-else-groups_name
returns-else-groups_name c = rw (any_column (same_column c.args.c) c.args.p.now) (grind (arith, common_steps))
