use Rattle.std.proofs.Common.{rules, ◌≡◌, ◌∙◌, ◌<◌, ◌≤◌, [], ℤ, ℕ, Option, length, refl, sym, arith}
use Rattle.std.proofs.lemmas.List.{length-map}
use Rattle.std.specs.HashMap.{get}
use Rattle.std.specs.Ordering.{int_eq}
use Rattle.csv.specs.Records.{fields_of}
use Rattle.table_load.specs.HeldColumns.{is_text_column, text_columns}
use Rattle.table_load.specs.Values.{field_values}
use Rattle.table_load.proofs.RecordLaws.{read_all, read_stopped, read_twice, record_read}
use Rattle.table_load.proofs.Rowwise.{noted_none}
use Rattle.table_load.proofs.reading.read_record.Goals as goal

pub returns-then-count-ge-MOST_ROWS-clause-grown : goal.returns-then-count-ge-MOST_ROWS-clause-grown
returns-then-count-ge-MOST_ROWS-clause-grown c = rw c.refused.ensures ([], noted_none c.args.texts.now)

pub returns-then-len-clause-grown : goal.returns-then-len-clause-grown
returns-then-len-clause-grown c = rw c.refused-then-len.ensures ([], noted_none c.args.texts.now)

pub returns-in-Some-clause-reads : goal.returns-in-Some-clause-reads
returns-in-Some-clause-reads c = λ seen len agree.
    let t = c.args.def.now in
    let ks = text_columns t.columns in
    let cells = c.read_fields.new.cells.items in
    let texts = c.read_fields.new.texts in
    let fields = fields_of c.args.row.now in
    let earlier : ℤ → Option ℕ = λ q. get int_eq c.args.places.now q in
    let rows : length seen < 1_048_576 = omega (arith, len, c.if-count-ge-MOST_ROWS.false) in
    let same : length fields ≡ length t.columns = search rules in
    let read = c.in_ok-stop.ensures.reads in
    let are_cells = c.in_ok-stop.ensures.cells in
    let no_more : length cells ≤ length t.columns = c.in_ok-stop.ensures.short in
    let short : length cells ≤ length ks = omega (arith, no_more, length-map t.columns is_text_column) in
    let twice = sym (rw c.as_slice.ensures.value at c.in-Some.ensures) in
    rw c.refused-in-Some.ensures (
      refl,
      record_read t seen fields rows same ∙ rw (← c.requires.key)
          (read_twice texts ks cells c.args.key seen earlier c.in-Some.column c.in-Some.earlier c.in_ok-stop.stop (field_values t t.columns fields) read short are_cells agree twice),
    )

pub returns-in-None-clause-reads : goal.returns-in-None-clause-reads
returns-in-None-clause-reads c = λ seen len agree.
    let t = c.args.def.now in
    let ks = text_columns t.columns in
    let cells = c.read_fields.new.cells.items in
    let texts = c.read_fields.new.texts in
    let fields = fields_of c.args.row.now in
    let earlier : ℤ → Option ℕ = λ q. get int_eq c.args.places.now q in
    let rows : length seen < 1_048_576 = omega (arith, len, c.if-count-ge-MOST_ROWS.false) in
    let same : length fields ≡ length t.columns = search rules in
    let read = c.in_ok-stop.ensures.reads in
    let are_cells = c.in_ok-stop.ensures.cells in
    let no_more : length cells ≤ length t.columns = c.in_ok-stop.ensures.short in
    let short : length cells ≤ length ks = omega (arith, no_more, length-map t.columns is_text_column) in
    let once = sym (rw c.as_slice.ensures.value at c.in_default.ensures) in
    let reads = rw c.in-None.is at read in (
      record_read t seen fields rows same ∙ rw (← c.requires.key) (read_all texts ks cells c.args.key seen earlier (field_values t t.columns fields) reads are_cells agree once),
      are_cells,
      reads.1,
    )

pub returns-in-Some-stop-clause-reads : goal.returns-in-Some-stop-clause-reads
returns-in-Some-stop-clause-reads c = λ seen len agree.
    let t = c.args.def.now in
    let ks = text_columns t.columns in
    let cells = c.read_fields.new.cells.items in
    let texts = c.read_fields.new.texts in
    let fields = fields_of c.args.row.now in
    let earlier : ℤ → Option ℕ = λ q. get int_eq c.args.places.now q in
    let rows : length seen < 1_048_576 = omega (arith, len, c.if-count-ge-MOST_ROWS.false) in
    let same : length fields ≡ length t.columns = search rules in
    let read = c.in_ok-stop.ensures.reads in
    let are_cells = c.in_ok-stop.ensures.cells in
    let no_more : length cells ≤ length t.columns = c.in_ok-stop.ensures.short in
    let short : length cells ≤ length ks = omega (arith, no_more, length-map t.columns is_text_column) in
    let once = sym (rw c.as_slice.ensures.value at c.in_default.ensures) in
    let reads = rw c.in-Some-stop.is at read in
    rw c.refused-in-Some-stop.ensures (
      refl,
      record_read t seen fields rows same ∙ rw (← c.requires.key)
          (read_stopped texts ks cells c.args.key seen earlier c.in-Some-stop.column c.in-Some-stop.kind (field_values t t.columns fields) reads short are_cells agree once),
    )
