use Rattle.table_load.proofs.RuleLaws.{one_answer, table_rule}
use Rattle.table_load.proofs.laws.table_rule.Goals as goal

pub returns-clause-rule : goal.returns-clause-rule
returns-clause-rule c = table_rule

pub returns-clause-one : goal.returns-clause-one
returns-clause-one c = one_answer
