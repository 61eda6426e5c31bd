use Rattle.std.proofs.Common.{◌≡◌, ◌∙◌}
use Rattle.std.specs.Fmt.{decimal}
use Rattle.run_steps.proofs.line.write_file_line.Goals as goal

pub returns-in-Schema-clause-whole : goal.returns-in-Schema-clause-whole
returns-in-Schema-clause-whole g c =
    let count : c.as_bytes-count.result.now ≡ decimal c.args.number = c.as_bytes-count.ensures.value ∙ c.format.ensures.text in
    rw (c.in-Schema.is, ← count) c.write_pieces.ensures.whole

pub returns-in-Schema-clause-prefix : goal.returns-in-Schema-clause-prefix
returns-in-Schema-clause-prefix g c =
    let count : c.as_bytes-count.result.now ≡ decimal c.args.number = c.as_bytes-count.ensures.value ∙ c.format.ensures.text in
    rw (c.in-Schema.is, ← count) c.write_pieces.ensures.prefix

pub returns-in-Table-clause-whole : goal.returns-in-Table-clause-whole
returns-in-Table-clause-whole g c =
    let count : c.as_bytes-count.result.now ≡ decimal c.args.number = c.as_bytes-count.ensures.value ∙ c.format.ensures.text in
    let table : c.as_bytes-table.result.now ≡ decimal c.in-Table.k = c.as_bytes-table.ensures.value ∙ c.format-in-Table.ensures.text in
    rw (c.in-Table.is, ← table, ← count) c.write_pieces-in-Table.ensures.whole

pub returns-in-Table-clause-prefix : goal.returns-in-Table-clause-prefix
returns-in-Table-clause-prefix g c =
    let count : c.as_bytes-count.result.now ≡ decimal c.args.number = c.as_bytes-count.ensures.value ∙ c.format.ensures.text in
    let table : c.as_bytes-table.result.now ≡ decimal c.in-Table.k = c.as_bytes-table.ensures.value ∙ c.format-in-Table.ensures.text in
    rw (c.in-Table.is, ← table, ← count) c.write_pieces-in-Table.ensures.prefix

pub returns-in-Text-clause-whole : goal.returns-in-Text-clause-whole
returns-in-Text-clause-whole g c =
    let count : c.as_bytes-count.result.now ≡ decimal c.args.number = c.as_bytes-count.ensures.value ∙ c.format.ensures.text in
    rw (c.in-Text.is, ← count) c.write_pieces-in-Text.ensures.whole

pub returns-in-Text-clause-prefix : goal.returns-in-Text-clause-prefix
returns-in-Text-clause-prefix g c =
    let count : c.as_bytes-count.result.now ≡ decimal c.args.number = c.as_bytes-count.ensures.value ∙ c.format.ensures.text in
    rw (c.in-Text.is, ← count) c.write_pieces-in-Text.ensures.prefix
