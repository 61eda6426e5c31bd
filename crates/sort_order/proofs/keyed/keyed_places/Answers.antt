use Rattle.std.proofs.Common.{◌≡◌, ℕ, List, map, take, get_or, ◌++◌, ◌∷◌, [], ap, sym, ◌∙◌, subst}
use Rattle.std.proofs.lemmas.List.{map-append, take_more}
use Rattle.control_vectors.specs.Slots.{Slot, slots_in}
use Rattle.sort_order.specs.Keyed.{first_slot, places_of, HaveFirst}
use Rattle.sort_order.specs.Keys.{no_key}
use Rattle.sort_order.specs.Orders.{slot_at}
use Rattle.sort_order.specs.declared.keyed.Keyed.{Keyed}
use Rattle.sort_order.proofs.KeyedSorts.{have_more, places_more}
use Rattle.sort_order.proofs.keyed.keyed_places.Goals as goal

pub loop-place-preserved : goal.loop-place-preserved
loop-place-preserved g c =
    let slots = slots_in (get_or (g.K.KeySource.keys c.args.keys.now) 0 no_key).cells in
    let has : first_slot c.in-Some.p ≡ slot_at slots c.in-Some.p.place = c.in-Some.ensures.slot ∙ c.key_slot.ensures ∙ ap (slot_at slots) (sym c.in-Some.ensures.place) in
    record {
      places = places_more c.loop-place.keyed.items c.push.new.self.items c.in-Some.p c.args.places.now c.loop-place.place-index 0 c.in_ok-push-in-Some.ensures.items c.in-Some.ensures.place c.loop-place-test.true c.loop-place.invariant.places;
      first = subst (HaveFirst slots) (sym c.in_ok-push-in-Some.ensures.items) (have_more slots c.loop-place.keyed.items c.in-Some.p c.loop-place.invariant.first has);
    }
