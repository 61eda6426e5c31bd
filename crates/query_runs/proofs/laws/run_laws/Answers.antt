use Rattle.query_runs.proofs.Runs.{run_laws}
use Rattle.query_runs.proofs.laws.run_laws.Goals as goal

pub returns : goal.returns
returns c = run_laws c.plans_lower.ensures c.read_answers.ensures c.check_law.ensures c.answer_law.ensures c.scales_law.ensures c.print_law.ensures
