use Rattle.number_fields.proofs.DecimalLaws.{decimal_rule}
use Rattle.number_fields.proofs.laws.decimal_rule.Goals as goal

pub returns : goal.returns
returns c = decimal_rule
