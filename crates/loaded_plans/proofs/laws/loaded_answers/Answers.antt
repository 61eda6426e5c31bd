use Rattle.loaded_plans.proofs.Answers.{loaded_answers}
use Rattle.loaded_plans.proofs.laws.loaded_answers.Goals as goal

pub returns : goal.returns
returns c = loaded_answers c.loaded_fit.ensures c.well_formed_laws.ensures c.plan_law.ensures c.prune_law.ensures
