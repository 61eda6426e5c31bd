use Rattle.table_load.proofs.Rowwise.{noted_none}
use Rattle.table_load.proofs.fields.read_field.Goals as goal

pub returns-then-may_be_null-clause-noted : goal.returns-then-may_be_null-clause-noted
returns-then-may_be_null-clause-noted c = noted_none c.args.texts.now
