use Rattle.query_read.proofs.QueryLaws.{found_by, only_by, refused_by}
use Rattle.query_read.proofs.NumberLaws.{measured_by}
use Rattle.query_read.proofs.query_text.read_query.Goals as goal

pub returns-clause-found : goal.returns-clause-found
returns-clause-found c = found_by c.args.bytes.now c.read_bytes.result c.read_bytes.ensures

pub returns-clause-only : goal.returns-clause-only
returns-clause-only c = only_by c.args.bytes.now c.read_bytes.result c.read_bytes.ensures

pub returns-clause-refused : goal.returns-clause-refused
returns-clause-refused c = refused_by c.args.bytes.now c.read_bytes.result c.read_bytes.ensures

pub returns-clause-measured : goal.returns-clause-measured
returns-clause-measured c = measured_by c.args.bytes.now c.read_bytes.result (found_by c.args.bytes.now c.read_bytes.result c.read_bytes.ensures)
