use Rattle.std.proofs.Common.{◌≡◌, min, ap, refl, ◌∙◌, arith}
use Rattle.programs.specs.Vectors.{seen}
use Rattle.voodoo_ops.specs.Columns.{fronts}
use Rattle.voodoo_ops.specs.Handing.{HandsOn}
use Rattle.voodoo_ops.proofs.Zips.{hands_seen, hands_shaped}
use Rattle.voodoo_ops.proofs.zip.zip.Goals as goal

pub of_ordered-requires : goal.of_ordered-requires
of_ordered-requires c =
    let a = c.args.a in
    let b = c.args.b in
    let n = c.min-n.result in
    let shorter : n ≡ min a.length b.length = omega (arith, c.min-n.ensures, c.len.ensures.len, c.len-2.ensures.len) in
    let f : HandsOn (seen a) (fronts n) c.in_ok-firsts.firsts.items = record { from = a; shaped = c.len.ensures.shaped; slots = refl; is = c.in_ok-firsts.ensures ∙ ap (fronts n) c.into_attributes.ensures.attributes } in
    let g : HandsOn (seen b) (fronts n) c.in_ok-seconds.seconds.items = record { from = b; shaped = c.len-2.ensures.shaped; slots = refl; is = c.in_ok-seconds.ensures ∙ ap (fronts n) c.into_attributes-2.ensures.attributes } in
    hands_shaped n (seen a) (seen b) c.in_ok-firsts.firsts.items c.in_ok-seconds.seconds.items c.in_ok-attributes.attributes.items f g shorter c.in_ok-attributes.ensures c.requires

pub returns : goal.returns
returns c =
    let a = c.args.a in
    let b = c.args.b in
    let n = c.min-n.result in
    let shorter : n ≡ min a.length b.length = omega (arith, c.min-n.ensures, c.len.ensures.len, c.len-2.ensures.len) in
    let f : HandsOn (seen a) (fronts n) c.in_ok-firsts.firsts.items = record { from = a; shaped = c.len.ensures.shaped; slots = refl; is = c.in_ok-firsts.ensures ∙ ap (fronts n) c.into_attributes.ensures.attributes } in
    let g : HandsOn (seen b) (fronts n) c.in_ok-seconds.seconds.items = record { from = b; shaped = c.len-2.ensures.shaped; slots = refl; is = c.in_ok-seconds.ensures ∙ ap (fronts n) c.into_attributes-2.ensures.attributes } in
    ap seen c.of_ordered.ensures ∙ hands_seen n (seen a) (seen b) c.in_ok-firsts.firsts.items c.in_ok-seconds.seconds.items c.in_ok-attributes.attributes.items f g shorter c.in_ok-attributes.ensures
