use Rattle.std.proofs.Common.{◌≡◌, ◌-◌, ◌≤◌, false, drop, take}
use Rattle.control_vectors.specs.Slots.{has_over}
use Rattle.move_kernels.proofs.reading.read_rest.Given as goal

abbrev pub invariant-loop-i : goal.invariant-loop-i
invariant-loop-i g l = record {
  from : l.from ≤ l.i;
  clear : has_over (take (l.i - l.from) (drop l.from (g.S.SlotSource.cells l.source))) ≡ false;
}
