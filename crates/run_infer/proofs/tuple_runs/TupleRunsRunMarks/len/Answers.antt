use Rattle.std.proofs.Common.{map, sym}
use Rattle.run_infer.proofs.TupleLaws.{are_tuple_marks, length_tuple_marks}
use Rattle.run_infer.proofs.tuple_runs.TupleRunsRunMarks.len.Goals as goal

pub returns-clause-len : goal.returns-clause-len
returns-clause-len c = rw (← c.self.view_is) (sym (length_tuple_marks c.self.inside.len (map (λ p. p.slots) c.self.inside.parts.now)))

pub returns-clause-marks : goal.returns-clause-marks
returns-clause-marks c = rw (← c.self.view_is) (are_tuple_marks c.self.inside.len (map (λ p. p.slots) c.self.inside.parts.now) c.self.invariant.0)
