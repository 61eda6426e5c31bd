use Rattle.table_load.proofs.Rowwise.{number_noted}
use Rattle.table_load.proofs.fields.read_typed.Goals as goal

pub returns-in-Integer-clause-noted : goal.returns-in-Integer-clause-noted
returns-in-Integer-clause-noted c = rw c.in-Integer.is (number_noted c.args.texts.now c.read_integer.result)

pub returns-in-Date-clause-noted : goal.returns-in-Date-clause-noted
returns-in-Date-clause-noted c = rw c.in-Date.is (number_noted c.args.texts.now c.read_date.result)

pub returns-in-Decimal-clause-noted : goal.returns-in-Decimal-clause-noted
returns-in-Decimal-clause-noted c = rw c.in-Decimal.is (number_noted c.args.texts.now c.read_decimal.result)
