use Rattle.std.proofs.Common.{drop}
use Rattle.std.specs.List.{enumerate_from}
use Rattle.program_writers.specs.Writers.{through}
use Rattle.program_writers.proofs.Writing.{Continues}
use Rattle.plan_programs.specs.Groups as spec
use Rattle.group_lower.proofs.aggregates.aggregates_of.Given as goal

abbrev pub invariant-loop-n : goal.invariant-loop-n
invariant-loop-n l =
    Continues (λ x. through (spec.aggregate_of l.dictionary l.f) x (enumerate_from l.n (drop l.n l.aggregates))) l.fn.w (through (spec.aggregate_of l.dictionary l.f) l.fn.groups (enumerate_from 0 l.aggregates)) l.w l.groups
