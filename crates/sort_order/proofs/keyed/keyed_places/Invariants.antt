use Rattle.std.proofs.Common.{◌≡◌, take, get_or}
use Rattle.control_vectors.specs.Slots.{slots_in}
use Rattle.sort_order.specs.Keyed.{places_of, HaveFirst}
use Rattle.sort_order.specs.Keys.{no_key}
use Rattle.sort_order.proofs.keyed.keyed_places.Given as goal

abbrev pub invariant-loop-place : goal.invariant-loop-place
invariant-loop-place g l = record {
  places : places_of l.keyed.items ≡ take l.place-index l.places;
  first : HaveFirst (slots_in (get_or (g.K.KeySource.keys l.keys) 0 no_key).cells) l.keyed.items;
}
