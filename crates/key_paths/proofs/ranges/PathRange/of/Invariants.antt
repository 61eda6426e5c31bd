use Rattle.std.proofs.Common.{take}
use Rattle.key_paths.proofs.Stretches.{Counted}
use Rattle.key_paths.proofs.ranges.PathRange.of.Given as goal

abbrev pub invariant-loop-path : goal.invariant-loop-path
invariant-loop-path l = Counted l.prefix (take l.path-index l.paths) l.from l.count
