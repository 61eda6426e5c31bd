use Rattle.number_fields.proofs.RangeLaws.{decimal_range, integer_range}
use Rattle.number_fields.proofs.laws.number_ranges.Goals as goal

pub returns-clause-integers : goal.returns-clause-integers
returns-clause-integers c = integer_range

pub returns-clause-decimals : goal.returns-clause-decimals
returns-clause-decimals c = decimal_range
