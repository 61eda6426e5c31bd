use Rattle.std.proofs.Common.{◌≡◌, List, map, get_or, ap, ◌∙◌, arith}
use Rattle.control_vectors.specs.Slots.{slots_in}
use Rattle.sort_order.specs.Keyed.{places_of, HaveFirst}
use Rattle.sort_order.specs.Keys.{key_of, no_key}
use Rattle.sort_order.specs.Orders.{comes_before, sorted_by}
use Rattle.sort_order.proofs.KeyedSorts.{places_by_keys}
use Rattle.sort_order.proofs.keyed.sorted_by_first.Goals as goal

pub returns-in_ok-sorted-in-Some : goal.returns-in_ok-sorted-in-Some
returns-in_ok-sorted-in-Some g c =
    let keys = g.K.KeySource.keys c.args.keys.now in
    let first : HaveFirst (slots_in (get_or keys 0 no_key).cells) c.in-Some.keyed.items = rw c.in-Some.is at c.in_ok-keyed.ensures.first in
    let places : places_of c.in-Some.keyed.items ≡ c.args.places.now = rw c.in-Some.is at c.in_ok-keyed.ensures.places in
    c.in_ok-sorted-in-Some.ensures ∙ places_by_keys keys c.in-Some.keyed.items (omega (arith, c.if-count-eq0.false, c.count.ensures.count)) first
    ∙ ap (sorted_by (comes_before (map key_of keys))) places
