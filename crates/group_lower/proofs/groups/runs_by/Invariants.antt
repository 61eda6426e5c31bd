use Rattle.std.proofs.Common.{drop}
use Rattle.std.specs.List.{enumerate_from}
use Rattle.program_writers.specs.Writers.{through}
use Rattle.program_writers.proofs.Writing.{Continues}
use Rattle.plan_programs.specs.Groups as spec
use Rattle.group_lower.proofs.groups.runs_by.Given as goal

abbrev pub invariant-loop-j : goal.invariant-loop-j
invariant-loop-j l =
    Continues (λ x. through (spec.run_by l.rows) x (enumerate_from l.j (drop l.j l.columns))) l.fn.w (through (spec.run_by l.rows) l.fn.runs (enumerate_from 0 l.columns)) l.w l.runs
