use Rattle.loaded_plans.proofs.Fitting.{loaded_fit}
use Rattle.loaded_plans.proofs.laws.loaded_fit.Goals as goal

pub returns : goal.returns
returns c = loaded_fit c.columns_fit.ensures
