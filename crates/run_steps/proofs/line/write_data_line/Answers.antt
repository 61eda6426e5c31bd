use Rattle.std.proofs.Common.{◌≡◌, ◌∙◌}
use Rattle.std.specs.Fmt.{decimal}
use Rattle.run_steps.specs.Statuses.{data_kind_name, data_kind_number}
use Rattle.run_steps.proofs.line.write_data_line.Goals as goal

pub returns-clause-whole : goal.returns-clause-whole
returns-clause-whole g c =
    let table : c.as_bytes-table.result.now ≡ decimal c.args.table = c.as_bytes-table.ensures.value ∙ c.format.ensures.text in
    let row : c.as_bytes-row.result.now ≡ decimal c.args.at_record = c.as_bytes-row.ensures.value ∙ c.format-2.ensures.text in
    let column : c.as_bytes-column.result.now ≡ decimal c.args.at_column = c.as_bytes-column.ensures.value ∙ c.format-3.ensures.text in
    let name : c.as_bytes-name.result.now ≡ data_kind_name c.args.kind.now = c.as_bytes-name.ensures.value ∙ c.data_kind_name.ensures in
    let number : c.as_bytes-number.result.now ≡ data_kind_number c.args.kind.now = c.as_bytes-number.ensures.value ∙ c.data_kind_number.ensures in
    rw (← table, ← row, ← column, ← name, ← number) c.write_pieces.ensures.whole

pub returns-clause-prefix : goal.returns-clause-prefix
returns-clause-prefix g c =
    let table : c.as_bytes-table.result.now ≡ decimal c.args.table = c.as_bytes-table.ensures.value ∙ c.format.ensures.text in
    let row : c.as_bytes-row.result.now ≡ decimal c.args.at_record = c.as_bytes-row.ensures.value ∙ c.format-2.ensures.text in
    let column : c.as_bytes-column.result.now ≡ decimal c.args.at_column = c.as_bytes-column.ensures.value ∙ c.format-3.ensures.text in
    let name : c.as_bytes-name.result.now ≡ data_kind_name c.args.kind.now = c.as_bytes-name.ensures.value ∙ c.data_kind_name.ensures in
    let number : c.as_bytes-number.result.now ≡ data_kind_number c.args.kind.now = c.as_bytes-number.ensures.value ∙ c.data_kind_number.ensures in
    rw (← table, ← row, ← column, ← name, ← number) c.write_pieces.ensures.prefix
