use Rattle.std.proofs.Common.{◌≡◌, ◌++◌, map, drop}
use Rattle.std.specs.List.{enumerate_from}
use Rattle.rel_plan.specs.Prunes.{pruned_source, pruned_sources}
use Rattle.rel_plan.proofs.prunes.pruned_sources.Given as goal

abbrev pub invariant-loop-n : goal.invariant-loop-n
invariant-loop-n l = pruned_sources l.p ≡ l.pruned ++ map (pruned_source l.p) (enumerate_from l.n (drop l.n l.p.sources))
