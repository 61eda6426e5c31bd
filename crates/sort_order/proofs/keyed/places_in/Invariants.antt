use Rattle.std.proofs.Common.{◌≡◌, take}
use Rattle.sort_order.specs.Keyed.{places_of}
use Rattle.sort_order.proofs.keyed.places_in.Given as goal

abbrev pub invariant-loop-p : goal.invariant-loop-p
invariant-loop-p l = l.places.items ≡ places_of (take l.p-index l.keyed)
