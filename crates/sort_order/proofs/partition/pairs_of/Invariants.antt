use Rattle.std.proofs.Common.{◌≡◌, ◌++◌, drop}
use Rattle.sort_order.specs.Pairs.{pairs_from}
use Rattle.sort_order.proofs.partition.pairs_of.Given as goal

abbrev pub invariant-loop-i : goal.invariant-loop-i
invariant-loop-i l = l.pairs.items ++ pairs_from l.i (drop l.i l.buckets) ≡ pairs_from 0 l.buckets
