use Rattle.programs.specs.Check.{check}
use Rattle.programs.specs.Outlines.{outlines}
use Rattle.programs.specs.Vectors.{tables}
use Rattle.query_runs.proofs.Refused.{not_refused}
use Rattle.query_runs.proofs.lowering.runnable_of_plan.Goals as goal

pub unreachable-requires : goal.unreachable-requires
unreachable-requires c = not_refused (check (outlines (tables c.store.result.now)) c.in_ok-program.program) c.requires.shape c.in-Err-Bad.field-0 c.in-Err-Bad.field-0-0 c.in-Err-Bad.field-0-1 (rw c.store.ensures (rw c.in_ok-program.ensures (rw c.in_ok-choices.ensures c.requires.passes))) c.in-Err-Bad.field-0-is c.in-Err-Bad.ensures.refused
