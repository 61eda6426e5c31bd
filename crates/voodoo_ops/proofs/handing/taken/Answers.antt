use Rattle.std.proofs.Common.{sym}
use Rattle.voodoo_ops.specs.Envs.{env_in}
use Rattle.voodoo_ops.proofs.Kept.{keeps_without, others_without}
use Rattle.voodoo_ops.proofs.handing.taken.Goals as goal

pub returns-else-reads-clause-others : goal.returns-else-reads-clause-others
returns-else-reads-clause-others c = others_without (env_in c.args.made.now) (env_in c.take.new.self) c.args.a.now c.take.ensures.left

pub returns-else-reads-clause-kept : goal.returns-else-reads-clause-kept
returns-else-reads-clause-kept c = keeps_without c.args.later (env_in c.args.made.now) (env_in c.take.new.self) c.args.a.now (sym c.if-reads.ensures) c.take.ensures.left
