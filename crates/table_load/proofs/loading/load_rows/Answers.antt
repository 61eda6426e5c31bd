use Rattle.std.proofs.Common.{rules, ◌≡◌, ◌∙◌, ◌∷◌, [], ℕ, ℤ, Option, length, sym, ap, refl, arith}
use Rattle.std.specs.HashMap.{get}
use Rattle.std.specs.Ordering.{int_eq}
use Rattle.std.proofs.lemmas.List.{length-map}
use Rattle.csv.specs.Records.{fields_of}
use Rattle.table_load.specs.HeldColumns.{empty_columns, is_text_column, row_at, rows_held, text_columns, with_cells}
use Rattle.table_load.specs.Tables.{rows_after}
use Rattle.table_load.proofs.KeyLaws.{empty_whole, placed_none}
use Rattle.table_load.proofs.LoadLaws.{agree_more, load_refused, row_more, rows_done, table_is, within_map}
use Rattle.table_load.proofs.Rowwise.{length-rows_to, noted_none, rows_to-none}
use Rattle.table_load.proofs.loading.load_rows.Goals as goal

pub rows-init : goal.rows-init
rows-init c =
    let ks = text_columns c.args.def.now.columns in
    let count : c.len.result ≡ length ks = c.len.ensures ∙ sym (length-map c.args.def.now.columns is_text_column) in
    let columns : c.in_ok-columns.columns.items ≡ empty_columns (length ks) = c.in_ok-columns.ensures ∙ ap empty_columns count in
    let none = rows_to-none (row_at [] ks (empty_columns (length ks))) in
    rw (c.new-texts.ensures, columns, none) (record {
      same = refl;
      whole = empty_whole ks;
      texts_are = noted_none [];
      keys = placed_none c.key_place-key.result (length ks) (λ q. get int_eq c.new-places.result q) (λ q. search (rules, c.new-places.ensures.empty));
      few = omega arith;
    })

pub returns-in-Err-clause-refused : goal.returns-in-Err-clause-refused
returns-in-Err-clause-refused c =
    let t = c.args.def.now in
    let ks = text_columns t.columns in
    let cs = c.rows.columns.items in
    let n = c.rows.count in
    let i = c.rows.invariant in
    let earlier : ℤ → Option ℕ = λ q. get int_eq c.rows.places q in
    let within = within_map c.key_place-key.result (length t.columns) (length ks) c.key_place-key.ensures.within (sym (length-map t.columns is_text_column)) in
    let left : c.rows.records ≡ fields_of c.next.new.row ∷ c.next.new.self = search rules in
    load_refused t c.key_place-key.result c.rows.texts c.read_record.new.texts ks cs c.read_record.new.cells.items n earlier (rows_held c.rows.texts ks cs n) c.rows.records c.next.new.self (fields_of c.next.new.row)
    (rows_after t [] c.args.records) c.in-Err.refusal i.same left (length-rows_to (row_at c.rows.texts ks cs) n) c.in-Err.ensures.grown
    (agree_more c.key_place-key.result c.rows.texts c.read_record.new.texts ks cs n earlier within i.whole i.keys i.texts_are)
    (c.in-Err.ensures.reads (rows_held c.rows.texts ks cs n))

pub rows-preserved : goal.rows-preserved
rows-preserved c =
    let t = c.args.def.now in
    let ks = text_columns t.columns in
    let cs = c.rows.columns.items in
    let zs = c.read_record.new.cells.items in
    let n = c.rows.count in
    let i = c.rows.invariant in
    let e = c.in-Ok.ensures in
    let earlier : ℤ → Option ℕ = λ q. get int_eq c.rows.places q in
    let later : ℤ → Option ℕ = λ q. get int_eq c.note_key.new.places q in
    let within = within_map c.key_place-key.result (length t.columns) (length ks) c.key_place-key.ensures.within (sym (length-map t.columns is_text_column)) in
    let left : c.rows.records ≡ fields_of c.next.new.row ∷ c.next.new.self = search rules in
    let agree = agree_more c.key_place-key.result c.rows.texts c.read_record.new.texts ks cs n earlier within i.whole i.keys i.texts_are e.grown in
    let read = e.reads (rows_held c.rows.texts ks cs n) (length-rows_to (row_at c.rows.texts ks cs) n) agree in
    let pushed : c.push_row.new.columns.items ≡ with_cells cs zs = rw c.as_slice-in-rows.ensures.value at c.in_ok-push_row.ensures in
    let noted_later = rw c.as_slice-in-rows-2.ensures.value at c.in_ok-note_key.ensures in
    let more = row_more t c.key_place-key.result c.rows.texts c.read_record.new.texts ks cs zs n earlier later c.rows.records c.next.new.self (fields_of c.next.new.row) (rows_after t [] c.args.records)
    within i.same i.whole i.texts_are i.keys left read.0 read.1 read.2 e.noted e.once noted_later
    in
    rw pushed (record { same = more.same; whole = more.whole; texts_are = more.texts_are; keys = more.keys; few = omega (arith, e.below) })

pub returns-clause-table : goal.returns-clause-table
returns-clause-table c =
    let t = c.args.def.now in
    let left : c.rows.records ≡ [] = search rules in
    let are : c.in_ok-are_texts.are_texts.items ≡ text_columns t.columns = c.in_ok-are_texts.ensures ∙ ap text_columns c.as_slice.ensures in
    rw (are, c.in_ok-texts.ensures) (table_is t (rows_held c.rows.texts (text_columns t.columns) c.rows.columns.items c.rows.count) _ _ (c.rows.invariant.same ∙ rows_done t _ c.rows.records left) (length-map t.columns is_text_column))

pub returns-clause-few_rows : goal.returns-clause-few_rows
returns-clause-few_rows c =
    let texts = c.in_ok-texts.texts.items in
    let row = row_at texts c.in_ok-are_texts.are_texts.items c.rows.columns.items in
    omega (arith, length-rows_to row c.rows.count, c.rows.invariant.few)
