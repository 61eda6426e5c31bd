use Rattle.std.proofs.Common.{◌≡◌, ◌++◌, drop, map}
use Rattle.std.specs.List.{enumerate_from}
use Rattle.plan_programs.specs.Items as spec
use Rattle.plan_lower.proofs.items.order_keys.Given as goal

abbrev pub invariant-loop-j : goal.invariant-loop-j
invariant-loop-j l = l.paths.items ++ map spec.key_by (enumerate_from l.j (drop l.j l.keys)) ≡ map spec.key_by (enumerate_from 0 l.keys)
