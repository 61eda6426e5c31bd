use Rattle.std.proofs.Common.{ap, sym, subst, ◌∙◌, ◌∷◌, [], Ok, Option}
use Rattle.std.specs.Prelude.{Result, is_some}
use Rattle.control_vectors.specs.declared.Over.{Over}
use Rattle.programs.specs.Merges.{merged}
use Rattle.programs.specs.Vectors.{Vector, known, seen}
use Rattle.voodoo_ops.specs.Columns.{earlier}
use Rattle.voodoo_ops.specs.Envs.{env_in}
use Rattle.voodoo_ops.specs.Handing.{HandsOn, on_side}
use Rattle.voodoo_ops.specs.declared.attributes.Side.TheVariants.{Beside}
use Rattle.voodoo_ops.proofs.HandedOn.{upsert_seen, upsert_shaped}
use Rattle.voodoo_ops.proofs.attributes.upsert_made.Goals as goal

pub attributes_on-requires : goal.attributes_on-requires
attributes_on-requires c = ap is_some c.in_ok-column.ensures.stays ∙ c.requires.source

pub of_ordered-requires : goal.of_ordered-requires
of_ordered-requires c =
    let p = c.args.p.now in
    let a = known (env_in c.args.made.now c.args.a.now) in
    let b = known (env_in c.args.made.now c.args.b.now) in
    let part = subst (λ (o : Option Vector). HandsOn (known o) (on_side Beside p) c.in_ok-others.others.items) c.in_ok-column.ensures.stays c.in_ok-others.ensures.part in
    let n = c.len-n.ensures.len ∙ ap (λ (v : Vector). v.len) (c.vector.ensures.vector ∙ sym part.slots) in
    upsert_shaped c.len-n.result p c.args.q.now c.in_ok-column.column part.from a b c.in_ok-attributes.attributes.items n (c.in_ok-attributes.ensures.entered ∙ ap (merged earlier ((p, c.in_ok-column.column) ∷ [])) part.is) c.in_ok-column.ensures.slots part.slots part.shaped c.in_ok-attributes.ensures.path c.requires.clear

pub returns-clause-made : goal.returns-clause-made
returns-clause-made c =
    let p = c.args.p.now in
    let a = known (env_in c.args.made.now c.args.a.now) in
    let b = known (env_in c.args.made.now c.args.b.now) in
    let part = subst (λ (o : Option Vector). HandsOn (known o) (on_side Beside p) c.in_ok-others.others.items) c.in_ok-column.ensures.stays c.in_ok-others.ensures.part in
    let n = c.len-n.ensures.len ∙ ap (λ (v : Vector). v.len) (c.vector.ensures.vector ∙ sym part.slots) in
    ap (λ (v : Vector). let r : Result Vector Over = Ok v in r)
    (sym (ap seen c.of_ordered.ensures ∙ upsert_seen c.len-n.result p c.args.q.now c.in_ok-column.column part.from a b c.in_ok-attributes.attributes.items n (c.in_ok-attributes.ensures.entered ∙ ap (merged earlier ((p, c.in_ok-column.column) ∷ [])) part.is) c.in_ok-column.ensures.slots part.slots))
