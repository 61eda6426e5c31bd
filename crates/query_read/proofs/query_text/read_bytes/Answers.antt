use Rattle.std.proofs.lemmas.Str.{is_utf8-from_IsUtf8}
use Rattle.query_read.proofs.QueryLaws.{query_of-text, query_of-not_text}
use Rattle.sql_read.proofs.SchemaLaws.{not_utf8-is_utf8}
use Rattle.query_read.proofs.query_text.read_bytes.Goals as goal

pub returns-in-Ok : goal.returns-in-Ok
returns-in-Ok c =
    let e = query_of-text c.args.bytes.now (is_utf8-from_IsUtf8 c.args.bytes.now c.in-Ok.ensures.cases.1) in
    rw e c.read_text.ensures

pub returns-in-Err : goal.returns-in-Err
returns-in-Err c =
    rw (c.valid_up_to.ensures, c.in-Err.ensures.valid_len) (λ _. query_of-not_text c.args.bytes.now (not_utf8-is_utf8 c.args.bytes.now c.in-Err.ensures.cases.0))
