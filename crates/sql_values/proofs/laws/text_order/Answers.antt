use Rattle.sql_values.proofs.Orders.{text_order}
use Rattle.sql_values.proofs.laws.text_order.Goals as goal

pub returns : goal.returns
returns c = text_order
