use Rattle.plan_laws.proofs.Formed.{well_formed_laws}
use Rattle.plan_laws.proofs.laws.well_formed_laws.Goals as goal

pub returns : goal.returns
returns c = well_formed_laws c.names_law.ensures c.typed_law.ensures c.column_law.ensures c.group_law.ensures c.shape_law.ensures
