use Rattle.std.proofs.Common.{rules, arith}
use Rattle.std.proofs.lemmas.Grind.{common_steps}
use Rattle.typed_trees.specs.Names.{wants_column, wants_aggregate}
use Rattle.typed_trees.proofs.Named.{in_names, choice_names}
use Rattle.typed_trees.proofs.naming.+names.Goals as goal

pub names-returns-else-names-4 : goal.names-returns-else-names-4
names-returns-else-names-4 t c = rw (in_names (wants_column c.args.wanted) (wants_aggregate c.args.wanted) c.args.e.now c.in-In.field-0 c.in-In.x c.in-In.ys c.in-In.is) (first_of (search rules, grind (arith, common_steps)))

pub names-returns-else-names-5 : goal.names-returns-else-names-5
names-returns-else-names-5 t c = rw (choice_names (wants_column c.args.wanted) (wants_aggregate c.args.wanted) c.args.e.now c.in-Coalesce.x c.in-Coalesce.ys c.in-Coalesce.is) (first_of (search rules, grind (arith, common_steps)))
