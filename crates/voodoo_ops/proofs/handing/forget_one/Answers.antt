use Rattle.std.proofs.Common.{sym}
use Rattle.voodoo_ops.specs.Envs.{env_in}
use Rattle.voodoo_ops.proofs.Kept.{keeps_without}
use Rattle.voodoo_ops.proofs.handing.forget_one.Goals as goal

pub returns-then-not-reads : goal.returns-then-not-reads
returns-then-not-reads c = keeps_without c.args.later (env_in c.args.made.now) (env_in c.take-last.new.self) c.in-Some.a.now (sym c.if-not-reads.ensures) c.take-last.ensures.left
