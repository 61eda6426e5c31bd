use Rattle.std.proofs.Common.{◌≡◌, false, take}
use Rattle.control_vectors.specs.Slots.{has_over, slots_in}
use Rattle.sort_order.proofs.CellLaws.{marked_below}
use Rattle.sort_order.proofs.ordering.marked_places.Given as goal

abbrev pub invariant-loop-i : goal.invariant-loop-i
invariant-loop-i g l = record {
  clear : has_over (take l.i (g.S.SlotSource.cells l.mark)) ≡ false;
  places : l.places.items ≡ marked_below (slots_in (g.S.SlotSource.cells l.mark)) l.i;
}
