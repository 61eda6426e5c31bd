use Rattle.table_load.proofs.Examples.{worked_columns, worked_fields, worked_tables}
use Rattle.table_load.proofs.laws.worked_tables.Goals as goal

pub returns-clause-fields : goal.returns-clause-fields
returns-clause-fields c = worked_fields

pub returns-clause-tables : goal.returns-clause-tables
returns-clause-tables c = worked_tables

pub returns-clause-columns : goal.returns-clause-columns
returns-clause-columns c = worked_columns
