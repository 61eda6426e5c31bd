use Rattle.run_infer.proofs.InferLaws.{are_control_marks, control_mark}
use Rattle.run_infer.proofs.control_runs.ControlRunsRunMarks.starts.Goals as goal

pub returns-clause-start : goal.returns-clause-start
returns-clause-start c = rw (← c.self.view_is) (control_mark c.self.inside.control c.self.inside.len c.args.i c.starts_at.result (rw (← c.self.view_is) at c.requires) c.starts_at.ensures)

pub returns-clause-marks : goal.returns-clause-marks
returns-clause-marks c = rw (← c.self.view_is) (are_control_marks c.self.inside.control c.self.inside.len c.self.invariant.0)
