use Rattle.std.proofs.Common.{◌≡◌, take, filter}
use Rattle.rel_plan.specs.Pushes.{stays}
use Rattle.rel_plan.proofs.pushes.staying.Given as goal

abbrev pub invariant-loop-e : goal.invariant-loop-e
invariant-loop-e l = l.kept ≡ filter (stays l.count) (take l.e-index l.parts)
