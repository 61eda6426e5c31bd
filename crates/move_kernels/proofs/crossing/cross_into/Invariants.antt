use Rattle.std.proofs.Common.{◌≡◌, take}
use Rattle.move_kernels.specs.Kernels.{crossed_from}
use Rattle.move_kernels.proofs.crossing.cross_into.Given as goal

abbrev pub invariant-loop-k : goal.invariant-loop-k
invariant-loop-k l = take l.k l.out ≡ crossed_from l.m l.left l.first l.k
