use Rattle.sql_read.proofs.SchemaLaws.{found_by, only_by, refused_by}
use Rattle.sql_read.proofs.FormLaws.{formed_by}
use Rattle.sql_read.proofs.schema_text.read_schema.Goals as goal

pub returns-clause-found : goal.returns-clause-found
returns-clause-found c = found_by (λ v. v.items) c.args.bytes.now c.read_bytes.result c.read_bytes.ensures

pub returns-clause-only : goal.returns-clause-only
returns-clause-only c = only_by (λ v. v.items) c.args.bytes.now c.read_bytes.result c.read_bytes.ensures

pub returns-clause-refused : goal.returns-clause-refused
returns-clause-refused c = refused_by (λ v. v.items) c.args.bytes.now c.read_bytes.result c.read_bytes.ensures

pub returns-clause-formed : goal.returns-clause-formed
returns-clause-formed c = formed_by (λ v. v.items) c.args.bytes.now c.read_bytes.result (found_by (λ v. v.items) c.args.bytes.now c.read_bytes.result c.read_bytes.ensures)
