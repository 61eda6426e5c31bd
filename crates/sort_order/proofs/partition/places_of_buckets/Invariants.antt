use Rattle.std.proofs.Common.{◌≡◌, map, get_or, None}
use Rattle.std.specs.List.{range_with_len}
use Rattle.sort_order.specs.Pairs.{rank_slot}
use Rattle.sort_order.proofs.partition.places_of_buckets.Given as goal

abbrev pub invariant-loop-i : goal.invariant-loop-i
invariant-loop-i l = l.slots.items ≡ map (λ j. rank_slot l.pairs.items (get_or l.buckets j None) j) (range_with_len 0 l.i)
