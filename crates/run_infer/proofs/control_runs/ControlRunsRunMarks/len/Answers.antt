use Rattle.std.proofs.Common.{sym}
use Rattle.run_infer.proofs.InferLaws.{are_control_marks, length_control_marks}
use Rattle.run_infer.proofs.control_runs.ControlRunsRunMarks.len.Goals as goal

pub returns-clause-len : goal.returns-clause-len
returns-clause-len c = rw (← c.self.view_is) (sym (length_control_marks c.self.inside.control c.self.inside.len))

pub returns-clause-marks : goal.returns-clause-marks
returns-clause-marks c = rw (← c.self.view_is) (are_control_marks c.self.inside.control c.self.inside.len c.self.invariant.0)
