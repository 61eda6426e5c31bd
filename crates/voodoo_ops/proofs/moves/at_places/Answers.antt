use Rattle.std.proofs.Common.{◌≤◌, ◌^◌, arith}
use Rattle.voodoo_ops.proofs.Shapes.{shaped_at}
use Rattle.voodoo_ops.proofs.moves.at_places.Goals as goal

pub of_ordered-requires : goal.of_ordered-requires
of_ordered-requires c =
    let short : c.len.result ≤ 2 ^ 22 = omega (arith, c.len.ensures.len, c.len.ensures.bounded) in
    shaped_at c.len.result c.args.places.now.slots c.args.v.now c.in_ok-attributes.attributes.items c.len.ensures.len short c.in_ok-attributes.ensures.moved c.in_ok-attributes.ensures.shaped
