use Rattle.std.proofs.Common.{◌≡◌, take}
use Rattle.rel_plan.specs.Pushes.{with_moved}
use Rattle.rel_plan.proofs.pushes.with_moved.Given as goal

abbrev pub invariant-loop-e : goal.invariant-loop-e
invariant-loop-e l = l.source ≡ with_moved l.count (take l.e-index l.parts) (l.n, l.s)
