use Rattle.table_load.specs.Tables.{table_of}
use Rattle.table_load.proofs.loading.load.Goals as goal

pub returns-in-Err-clause-refused : goal.returns-in-Err-clause-refused
unfolding table_of
returns-in-Err-clause-refused c = rw (← c.new-records.ensures) c.in-Err.ensures.refused

pub returns-in-Ok-clause-table : goal.returns-in-Ok-clause-table
unfolding table_of
returns-in-Ok-clause-table c = rw (← c.new-records.ensures, c.in-Ok.ensures.names) c.load_rows.ensures.table

pub returns-in-Ok-clause-refused : goal.returns-in-Ok-clause-refused
unfolding table_of
returns-in-Ok-clause-refused c = rw (← c.new-records.ensures, c.in-Ok.ensures.names) c.load_rows.ensures.refused
