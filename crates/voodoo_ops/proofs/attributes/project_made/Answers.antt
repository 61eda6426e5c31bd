use Rattle.std.proofs.Common.{ap, sym, ◌∙◌, map, Ok}
use Rattle.std.specs.Prelude.{Result}
use Rattle.control_vectors.specs.declared.Over.{Over}
use Rattle.programs.specs.Vectors.{Vector, known, seen}
use Rattle.voodoo_ops.specs.Envs.{env_in}
use Rattle.voodoo_ops.specs.Handing.{under}
use Rattle.voodoo_ops.proofs.HandedOn.{project_seen, project_shaped, all_below, below_shallow}
use Rattle.voodoo_ops.proofs.attributes.project_made.Goals as goal

pub moved_attributes-requires-clause-below : goal.moved_attributes-requires-clause-below
moved_attributes-requires-clause-below c =
    let part = c.in_ok-below.ensures.part in
    rw part.is (all_below c.args.p.now part.from.attributes)

pub moved_attributes-requires-clause-shallow : goal.moved_attributes-requires-clause-shallow
moved_attributes-requires-clause-shallow c =
    let part = c.in_ok-below.ensures.part in
    rw part.is (below_shallow c.args.p.now c.args.q.now part.from (known (env_in c.args.made.now c.args.a.now)) part.slots c.requires.shallow)

pub of_ordered-requires : goal.of_ordered-requires
of_ordered-requires c =
    let part = c.in_ok-below.ensures.part in
    let w = known (env_in c.args.made.now c.args.a.now) in
    let n = c.len-n.ensures.len ∙ ap (λ (v : Vector). v.len) (c.vector.ensures.vector ∙ sym part.slots) in
    project_shaped c.len-n.result c.args.p.now c.args.q.now part.from w c.in_ok-attributes.attributes.items n (c.in_ok-attributes.ensures.moved ∙ ap (map (under c.args.p.now c.args.q.now)) part.is) part.slots part.shaped c.in_ok-attributes.ensures.ends c.in_ok-attributes.ensures.paths c.requires.clear

pub returns-clause-made : goal.returns-clause-made
returns-clause-made c =
    let part = c.in_ok-below.ensures.part in
    let w = known (env_in c.args.made.now c.args.a.now) in
    let n = c.len-n.ensures.len ∙ ap (λ (v : Vector). v.len) (c.vector.ensures.vector ∙ sym part.slots) in
    ap (λ (v : Vector). let r : Result Vector Over = Ok v in r)
    (sym (ap seen c.of_ordered.ensures ∙ project_seen c.len-n.result c.args.p.now c.args.q.now part.from w c.in_ok-attributes.attributes.items n (c.in_ok-attributes.ensures.moved ∙ ap (map (under c.args.p.now c.args.q.now)) part.is) part.slots))
