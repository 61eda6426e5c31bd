use Rattle.std.proofs.Common.{◌∙◌, sym}
use Rattle.csv.specs.Records.{fields_of}
use Rattle.row_print.proofs.Texts.{not-numeric, on-ok, row-same}
use Rattle.row_print.proofs.row_text.RowText.add.Goals as goal

pub returns-clause-added : goal.returns-clause-added
returns-clause-added c =
    let ready = c.self.invariant in
    let ok = sym c.is_err.ensures.value ∙ c.if-is_err.false in
    let text = on-ok c.write_byte_record.result _ ok c.write_byte_record.ensures.bytes ready.fields ready.wrote (rw ready.setup not-numeric) in
    rw (ready.setup, row-same (fields_of c.args.row.now), c.self.view_is) at text
