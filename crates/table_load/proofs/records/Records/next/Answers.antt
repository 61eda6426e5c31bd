use Rattle.csv.specs.Records.{fields_of}
use Rattle.table_load.proofs.Left.{both-clauses, same-found, step-read}
use Rattle.table_load.proofs.records.Records.next.Goals as goal

pub returns : goal.returns
returns c =
    let e = c.read_byte_record-read.ensures in
    let i = c.self in
    let step = step-read i.inside.reader c.read_byte_record-read.new.self c.read_byte_record-read.result (fields_of c.read_byte_record-read.new.row) i.invariant e.reads e.flexible e.goes e.ready e.failed e.fails e.why in
    let both = both-clauses _ _ _ c.found_of.result (same-found _ c.found_of.result _ c.found_of.ensures step.0) in
    rw (← i.view_is) (record { more = both.0; end = both.1 })
