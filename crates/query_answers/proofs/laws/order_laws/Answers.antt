use Rattle.query_answers.proofs.KeyOrders.{order_laws}
use Rattle.query_answers.proofs.laws.order_laws.Goals as goal

pub returns : goal.returns
returns c = order_laws
