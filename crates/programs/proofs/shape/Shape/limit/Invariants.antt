use Rattle.std.proofs.Common.{◌≡◌, ◌+◌, drop}
use Rattle.programs.specs.Check.{limit_of, limit_from}
use Rattle.programs.proofs.shape.Shape.limit.Given as goal

abbrev pub invariant-loop-i : goal.invariant-loop-i
invariant-loop-i l = limit_of l.self ≡ limit_from (l.i + 1) (drop l.i l.self)
