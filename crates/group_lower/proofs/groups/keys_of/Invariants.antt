use Rattle.std.proofs.Common.{drop}
use Rattle.std.specs.List.{enumerate_from}
use Rattle.program_writers.specs.Writers.{through}
use Rattle.program_writers.proofs.Writing.{Continues}
use Rattle.plan_programs.specs.Groups as spec
use Rattle.group_lower.proofs.groups.keys_of.Given as goal

abbrev pub invariant-loop-j : goal.invariant-loop-j
invariant-loop-j l =
    Continues (λ x. through (spec.key_of l.rows l.zero) x (enumerate_from l.j (drop l.j l.columns))) l.fn.w (through (spec.key_of l.rows l.zero) l.fn.groups (enumerate_from 0 l.columns)) l.w l.groups
