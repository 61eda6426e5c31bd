use Rattle.std.proofs.Common.{arith}
use Rattle.std.proofs.lemmas.Grind.{common_steps}
use Rattle.rel_plan.specs.Pushes.{names_source}
use Rattle.rel_plan.proofs.Counts.{count_more}
use Rattle.rel_plan.proofs.pushes.sources_named.Goals as goal

pub loop-n-preserved : goal.loop-n-preserved
loop-n-preserved c = let e = count_more (λ n. names_source n c.args.e.now) c.loop-n.n in grind (arith, common_steps, e)
