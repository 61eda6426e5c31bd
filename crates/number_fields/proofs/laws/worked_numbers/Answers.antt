use Rattle.number_fields.proofs.Examples.{worked_decimals, worked_integers}
use Rattle.number_fields.proofs.laws.worked_numbers.Goals as goal

pub returns-clause-integers : goal.returns-clause-integers
returns-clause-integers c = worked_integers

pub returns-clause-decimals : goal.returns-clause-decimals
returns-clause-decimals c = worked_decimals
