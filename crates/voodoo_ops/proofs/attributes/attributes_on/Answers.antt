use Rattle.std.proofs.Common.{ap, ◌∙◌}
use Rattle.std.specs.Prelude.{is_some}
use Rattle.programs.specs.Vectors.{Env, known}
use Rattle.voodoo_ops.proofs.attributes.attributes_on.Goals as goal

pub vector-requires : goal.vector-requires
vector-requires c = ap (λ (e : Env). is_some (e c.args.a.now)) c.in-None.ensures.same ∙ c.requires

pub returns-in_ok-copies-in-None-clause-part : goal.returns-in_ok-copies-in-None-clause-part
returns-in_ok-copies-in-None-clause-part c = record {
  from = c.vector.result.now;
  shaped = c.vector.ensures.shaped;
  slots = c.vector.ensures.vector ∙ ap (λ (e : Env). known (e c.args.a.now)) c.in-None.ensures.same;
  is = c.in_ok-copies-in-None.ensures;
}
