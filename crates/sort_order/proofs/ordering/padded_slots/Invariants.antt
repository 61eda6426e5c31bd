use Rattle.std.proofs.Common.{◌≡◌, ◌≤◌, ◌++◌, ◌-◌, length, max, replicate, take, None}
use Rattle.sort_order.proofs.CellLaws.{places_as_slots}
use Rattle.sort_order.proofs.ordering.padded_slots.Given as goal

abbrev pub invariant-loop-place : goal.invariant-loop-place
invariant-loop-place l = l.slots.items ≡ places_as_slots (take l.place-index l.places)

abbrev pub invariant-loop-k : goal.invariant-loop-k
invariant-loop-k l = record {
  few : l.k ≤ max l.n (length l.places);
  slots : l.slots.items ≡ places_as_slots l.places ++ replicate (l.k - length l.places) None;
}
