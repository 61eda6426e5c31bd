use Rattle.data_make.proofs.MadeRows.{tables_load}
use Rattle.data_make.proofs.SchemaReads.{catalog, schema_read}
use Rattle.data_make.proofs.laws.job_is_loaded.Goals as goal

pub returns-clause-schema : goal.returns-clause-schema
returns-clause-schema c = schema_read

pub returns-clause-catalog : goal.returns-clause-catalog
returns-clause-catalog c = catalog

pub returns-clause-tables : goal.returns-clause-tables
returns-clause-tables c = tables_load c.date_law.ensures.every
