use Rattle.std.proofs.Common.{drop}
use Rattle.program_writers.specs.Writers.{through}
use Rattle.program_writers.proofs.Writing.{Continues}
use Rattle.plan_programs.specs.Rows as spec
use Rattle.row_lower.proofs.rows.all_true.Given as goal

abbrev pub invariant-loop-e : goal.invariant-loop-e
invariant-loop-e l =
    Continues (λ x. through (spec.and_true l.dictionary l.b) x (drop l.e-index l.conditions)) l.fn.w (through (spec.and_true l.dictionary l.b) l.fn.all l.conditions) l.w l.all
