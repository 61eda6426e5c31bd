use Rattle.std.proofs.Common.{ap, ◌∙◌}
use Rattle.std.specs.Prelude.{is_some}
use Rattle.programs.specs.Vectors.{Env, known, seen}
use Rattle.voodoo_ops.proofs.handing.handed_on.Goals as goal

pub vector-requires : goal.vector-requires
vector-requires c = ap (λ (e : Env). is_some (e c.args.a.now)) c.in-None.ensures.same ∙ c.requires

pub returns-in_ok-copy-in-None-clause-vector : goal.returns-in_ok-copy-in-None-clause-vector
returns-in_ok-copy-in-None-clause-vector c = ap seen c.in_ok-copy-in-None.ensures ∙ c.vector.ensures.vector ∙ ap (λ (e : Env). known (e c.args.a.now)) c.in-None.ensures.same
