use Rattle.std.proofs.Common.{sym, ◌∙◌, rules, arith}
use Rattle.std.proofs.lemmas.Grind.{common_steps}
use Rattle.query_types.proofs.Aggregates.{has-In, has-Coalesce}
use Rattle.query_types.proofs.expr.+has_aggregate.Goals as goal

pub has_aggregate-returns-else-has_aggregate-4 : goal.has_aggregate-returns-else-has_aggregate-4
has_aggregate-returns-else-has_aggregate-4 t c = rw (has-In c.args.e.now c.in-In.field-0 c.in-In.field-1 c.in-In.x c.in-In.ys (sym c.get.ensures ∙ c.in-In.is)) (first_of (search rules, grind (arith, common_steps)))

pub has_aggregate-returns-else-has_aggregate-5 : goal.has_aggregate-returns-else-has_aggregate-5
has_aggregate-returns-else-has_aggregate-5 t c = rw (has-Coalesce c.args.e.now c.in-Coalesce.x c.in-Coalesce.ys (sym c.get.ensures ∙ c.in-Coalesce.is)) (first_of (search rules, grind (arith, common_steps)))
