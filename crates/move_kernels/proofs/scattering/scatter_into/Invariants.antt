use Rattle.std.proofs.Common.{◌≡◌, false, length, take}
use Rattle.control_vectors.specs.Slots.{has_over, slots_in}
use Rattle.slot_moves.specs.Moves.{gathered}
use Rattle.move_kernels.proofs.Writers.{writers_of}
use Rattle.move_kernels.proofs.scattering.scatter_into.Given as goal

abbrev pub invariant-loop-j : goal.invariant-loop-j
invariant-loop-j g l = record {
  source : has_over (take l.j (g.S.SlotSource.cells l.source)) ≡ false;
  positions : has_over (take l.j (g.P.SlotSource.cells l.pos)) ≡ false;
  slots : l.out ≡ gathered (slots_in (g.S.SlotSource.cells l.source)) (writers_of (slots_in (g.P.SlotSource.cells l.pos)) l.j l.first (length l.fn.out));
}
