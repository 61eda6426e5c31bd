use Rattle.std.proofs.Common.{drop}
use Rattle.program_writers.specs.Writers.{through}
use Rattle.program_writers.proofs.Writing.{Continues}
use Rattle.plan_programs.specs.Rows as spec
use Rattle.row_lower.proofs.rows.columns_in.Given as goal

abbrev pub invariant-loop-k : goal.invariant-loop-k
invariant-loop-k l =
    Continues (λ x. through (spec.column_in l.def l.source l.table) x (drop l.k-index l.columns)) l.fn.w (through (spec.column_in l.def l.source l.table) l.fn.b l.columns) l.w l.b
