use Rattle.std.proofs.Common.{◌≡◌, ◌++◌, map, drop}
use Rattle.std.specs.List.{enumerate_from}
use Rattle.rel_plan.specs.Pushes.{with_moved, pushed_sources}
use Rattle.rel_plan.proofs.pushes.pushed_sources.Given as goal

abbrev pub invariant-loop-n : goal.invariant-loop-n
invariant-loop-n l = pushed_sources l.parts l.sources ≡ l.pushed ++ map (with_moved l.count l.parts) (enumerate_from l.n (drop l.n l.sources))
