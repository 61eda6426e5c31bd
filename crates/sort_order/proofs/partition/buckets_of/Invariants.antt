use Rattle.std.proofs.Common.{◌≡◌, false, map, take}
use Rattle.control_vectors.specs.Slots.{has_over, slots_in}
use Rattle.sort_order.specs.Buckets.{bucket}
use Rattle.sort_order.proofs.partition.buckets_of.Given as goal

abbrev pub invariant-loop-i : goal.invariant-loop-i
invariant-loop-i g l = record {
  clear : has_over (take l.i (g.K.SlotSource.cells l.key)) ≡ false;
  buckets : l.buckets.items ≡ map (bucket l.pivots) (slots_in (take l.i (g.K.SlotSource.cells l.key)));
}
