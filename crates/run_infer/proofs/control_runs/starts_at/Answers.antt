use Rattle.run_infer.proofs.InferLaws.{one_begins, uniform_begins}
use Rattle.run_infer.proofs.control_runs.starts_at.Goals as goal

pub returns-in-One : goal.returns-in-One
returns-in-One c = one_begins c.args.v.now c.args.i (rw c.in-One.is at c.requires)

pub returns-in-Uniform : goal.returns-in-Uniform
returns-in-Uniform c = uniform_begins c.args.v.now c.in-Uniform.length c.args.i (rw c.in-Uniform.is at c.requires)
