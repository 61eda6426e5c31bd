use Rattle.sort_order.proofs.CellLaws.{ordered_is}
use Rattle.sort_order.proofs.ordering.order.Goals as goal

pub returns-in-Ok-places_in_order : goal.returns-in-Ok-places_in_order
returns-in-Ok-places_in_order g c =
    ordered_is (g.S.SlotSource.cells c.args.mark.now) (g.K.KeySource.keys c.args.keys.now) c.in-Ok.places.items c.len.result c.in-Ok-places_in_order.slots.items c.in-Ok.ensures.0 c.in-Ok-check_keys.ensures c.in-Ok.ensures.1 c.len.ensures.len c.in-Ok-places_in_order.ensures
