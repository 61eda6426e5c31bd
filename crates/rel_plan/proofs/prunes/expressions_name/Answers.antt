use Rattle.std.proofs.Common.{arith}
use Rattle.std.proofs.lemmas.Grind.{common_steps}
use Rattle.typed_trees.specs.Names.{names}
use Rattle.rel_plan.proofs.Anywhere.{any_expression}
use Rattle.rel_plan.proofs.prunes.expressions_name.Goals as goal

pub returns-then-option_names : goal.returns-then-option_names
returns-then-option_names c = rw (any_expression (names c.args.wanted) c.args.p.now) (grind (arith, common_steps))

pub returns-else-option_names : goal.returns-else-option_names
returns-else-option_names c = rw (any_expression (names c.args.wanted) c.args.p.now) (grind (arith, common_steps))
