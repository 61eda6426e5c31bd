use Rattle.std.proofs.Common.{◌≡◌, ◌≤◌}
use Rattle.rel_plan.specs.Pushes.{sources_named}
use Rattle.rel_plan.proofs.pushes.sources_named.Given as goal

abbrev pub invariant-loop-n : goal.invariant-loop-n
invariant-loop-n l = (l.named ≡ sources_named l.n l.e) × (l.named ≤ l.n)
