use Rattle.std.proofs.Common.{length}
use Rattle.control_vectors.specs.Slots.{slots_in}
use Rattle.slot_moves.specs.Moves.{slot_at}
use Rattle.move_kernels.specs.Kernels.{stretch}
use Rattle.move_kernels.proofs.Stretches.{Filled}
use Rattle.move_kernels.proofs.gathering.gather_into.Given as goal

abbrev pub invariant-loop-k : goal.invariant-loop-k
invariant-loop-k g l = Filled (slot_at (slots_in (g.S.SlotSource.cells l.source))) (stretch (g.P.SlotSource.cells l.pos) l.first (length l.initial.out)) l.k l.out
