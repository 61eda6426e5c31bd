use Rattle.std.proofs.Common.{◌≡◌, min, ap, sym, subst, ◌∙◌, arith, Ok, Option}
use Rattle.std.specs.Prelude.{Result, is_some}
use Rattle.control_vectors.specs.declared.Over.{Over}
use Rattle.programs.specs.Vectors.{Vector, known, seen}
use Rattle.voodoo_ops.specs.Columns.{fronts}
use Rattle.voodoo_ops.specs.Envs.{env_in}
use Rattle.voodoo_ops.specs.Handing.{HandsOn}
use Rattle.voodoo_ops.proofs.Zips.{hands_seen, hands_shaped}
use Rattle.voodoo_ops.proofs.zip.zip_made.Goals as goal

pub fronts_of-requires : goal.fronts_of-requires
fronts_of-requires c = ap is_some c.in_ok-firsts.ensures.stays ∙ c.requires.b

pub of_ordered-requires : goal.of_ordered-requires
of_ordered-requires c =
    let a = known (env_in c.args.made.now c.args.a.now) in
    let b = known (env_in c.args.made.now c.args.b.now) in
    let n : c.min-n.result ≡ min a.len b.len = omega (arith, c.min-n.ensures, c.len.ensures.len, c.len-2.ensures.len, ap (λ (v : Vector). v.len) c.vector.ensures.vector, ap (λ (v : Vector). v.len) c.vector-2.ensures.vector) in
    hands_shaped c.min-n.result a b c.in_ok-firsts.firsts.items c.in_ok-seconds.seconds.items c.in_ok-attributes.attributes.items c.in_ok-firsts.ensures.part
    (subst (λ (o : Option Vector). HandsOn (known o) (fronts c.min-n.result) c.in_ok-seconds.seconds.items) c.in_ok-firsts.ensures.stays c.in_ok-seconds.ensures.part)
    n c.in_ok-attributes.ensures c.requires.clear

pub returns-clause-made : goal.returns-clause-made
returns-clause-made c =
    let a = known (env_in c.args.made.now c.args.a.now) in
    let b = known (env_in c.args.made.now c.args.b.now) in
    let n : c.min-n.result ≡ min a.len b.len = omega (arith, c.min-n.ensures, c.len.ensures.len, c.len-2.ensures.len, ap (λ (v : Vector). v.len) c.vector.ensures.vector, ap (λ (v : Vector). v.len) c.vector-2.ensures.vector) in
    ap (λ (v : Vector). let r : Result Vector Over = Ok v in r)
    (sym (ap seen c.of_ordered.ensures ∙ hands_seen c.min-n.result a b c.in_ok-firsts.firsts.items c.in_ok-seconds.seconds.items c.in_ok-attributes.attributes.items c.in_ok-firsts.ensures.part
    (subst (λ (o : Option Vector). HandsOn (known o) (fronts c.min-n.result) c.in_ok-seconds.seconds.items) c.in_ok-firsts.ensures.stays c.in_ok-seconds.ensures.part)
    n c.in_ok-attributes.ensures))
