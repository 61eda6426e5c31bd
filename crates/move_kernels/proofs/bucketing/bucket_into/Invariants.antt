use Rattle.std.proofs.Common.{length}
use Rattle.sort_order.specs.Buckets.{bucket}
use Rattle.move_kernels.specs.Kernels.{stretch}
use Rattle.move_kernels.proofs.Stretches.{Filled}
use Rattle.move_kernels.proofs.bucketing.bucket_into.Given as goal

abbrev pub invariant-loop-k : goal.invariant-loop-k
invariant-loop-k g l = Filled (bucket l.pivots) (stretch (g.K.SlotSource.cells l.key) l.first (length l.initial.out)) l.k l.out
