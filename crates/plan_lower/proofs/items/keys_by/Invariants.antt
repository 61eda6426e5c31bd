use Rattle.std.proofs.Common.{drop}
use Rattle.std.specs.List.{enumerate_from}
use Rattle.program_writers.specs.Writers.{through}
use Rattle.program_writers.proofs.Writing.{Continues}
use Rattle.plan_programs.specs.Items as spec
use Rattle.plan_lower.proofs.items.keys_by.Given as goal

abbrev pub invariant-loop-j : goal.invariant-loop-j
invariant-loop-j l =
    Continues (λ x. through (spec.numbered_key l.b l.items) x (enumerate_from l.j (drop l.j l.keys))) l.fn.w (through (spec.numbered_key l.b l.items) l.fn.vector (enumerate_from 0 l.keys)) l.w l.vector
