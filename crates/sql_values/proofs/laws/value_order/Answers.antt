use Rattle.sql_values.proofs.Orders.{value_order}
use Rattle.sql_values.proofs.laws.value_order.Goals as goal

pub returns : goal.returns
returns c = value_order
