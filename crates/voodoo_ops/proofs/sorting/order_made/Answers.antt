use Rattle.std.proofs.Common.{List, map, length, arith, ap, ◌∙◌, Ok}
use Rattle.std.specs.Prelude.{Result}
use Rattle.control_vectors.specs.Slots.{Slot}
use Rattle.control_vectors.specs.declared.Over.{Over}
use Rattle.programs.specs.Vectors.{Vector, known, seen}
use Rattle.voodoo_ops.specs.Envs.{env_in}
use Rattle.voodoo_ops.specs.Moves.{sort_key}
use Rattle.voodoo_ops.proofs.Lengths.{ordered_long}
use Rattle.voodoo_ops.proofs.Sorted.{places_are, never_over, order_is}
use Rattle.voodoo_ops.proofs.sorting.order_made.Goals as goal

pub slots_column-requires : goal.slots_column-requires
slots_column-requires c =
    let keys = map (sort_key (known (env_in c.args.made.now c.args.a.now))) c.args.keys.now in
    let marks = c.attribute-marks.result.now.slots in
    let is = places_are marks c.in-Ok.places.items keys _ c.in_ok-order_keys.ensures.keys c.in-Ok.ensures in
    omega (arith, ap (λ (l : List Slot). length l) (c.as_slice.ensures.value ∙ is), ordered_long marks keys, c.attribute-marks.ensures.bounded)

pub returns-in-Ok : goal.returns-in-Ok
returns-in-Ok c =
    let a = known (env_in c.args.made.now c.args.a.now) in
    let keys = map (sort_key a) c.args.keys.now in
    let marks = c.attribute-marks.result.now.slots in
    let is = places_are marks c.in-Ok.places.items keys _ c.in_ok-order_keys.ensures.keys c.in-Ok.ensures in
    ap (λ (v : Vector). let r : Result Vector Over = Ok v in r)
    (order_is a c.args.mark.now c.args.out.now c.args.keys.now (seen c.in_ok-named-in-Ok.field-0) c.in_ok-slots_column-in-Ok.field-0.slots marks c.in_ok-named-in-Ok.ensures (c.in_ok-slots_column-in-Ok.ensures ∙ c.as_slice.ensures.value ∙ is) c.attribute-marks.ensures.slots c.attribute-marks.ensures.len)

pub unreachable-requires : goal.unreachable-requires
unreachable-requires c =
    let keys = map (sort_key (known (env_in c.args.made.now c.args.a.now))) c.args.keys.now in
    never_over c.attribute-marks.result.now.slots keys _ c.in-Err-Over.field-0 c.in_ok-order_keys.ensures.keys c.in-Err-Over.field-0-is c.in-Err-Over.ensures
