use Rattle.std.proofs.Common.{ap, ◌∙◌, Ok}
use Rattle.std.specs.Prelude.{Result}
use Rattle.control_vectors.specs.declared.Over.{Over}
use Rattle.programs.specs.Vectors.{Vector, known, seen}
use Rattle.voodoo_ops.specs.Envs.{env_in}
use Rattle.voodoo_ops.proofs.Scattered.{scattered_is}
use Rattle.voodoo_ops.proofs.moves.scatter_made.Goals as goal

pub returns : goal.returns
returns c =
    let a = known (env_in c.args.made.now c.args.a.now) in
    let b = known (env_in c.args.made.now c.args.b.now) in
    let m = c.len.ensures.len ∙ ap (λ (v : Vector). v.len) c.vector-v.ensures.vector in
    ap (λ (v : Vector). let r : Result Vector Over = Ok v in r)
    (scattered_is a b c.args.pos.now c.size_in.result _ c.len.result (seen c.vector-v.result.now) (seen c.in_ok-at_places.field-0) c.attribute.result.now.slots c.in_ok-places.places.slots c.in_ok-at_places.ensures c.in_ok-places.ensures c.attribute.ensures.slots m c.size_in.ensures c.vector-v.ensures.vector)
