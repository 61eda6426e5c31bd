use Rattle.std.proofs.Common.{rules, Bor, ◌≡◌, ◌∙◌, ◌+◌, ◌<◌, ◌++◌, ◌∷◌, [], ℕ, List, length, get_or, drop, false, sym, ap, refl, arith, length-append}
use Rattle.std.specs.Option.{option_map}
use Rattle.std.proofs.lemmas.List.{get_or-map, length-map}
use Rattle.csv.specs.Records.{fields_of}
use Rattle.table_load.specs.HeldColumns.{is_text_column, text_columns, value_of, values_of}
use Rattle.table_load.specs.Values.{field_value, field_values}
use Rattle.table_load.proofs.FieldLaws.{cell_more, cells_empty, field_missing, oks-push, value_step, values_empty}
use Rattle.table_load.proofs.RecordLaws.{oks}
use Rattle.table_load.proofs.Rowwise.{noted_none}
use Rattle.table_load.proofs.fields.read_fields.Goals as goal

pub columns-init : goal.columns-init
columns-init c =
    let none = values_empty c.args.texts.now (text_columns c.args.def.now.columns) in
    rw (c.clear.ensures.items, none) (record { values = refl; cells = cells_empty (length c.args.texts.now) (text_columns c.args.def.now.columns); noted_are = noted_none c.args.texts.now; as_many = refl })

pub returns-in-Err-Bad-clause-reads : goal.returns-in-Err-Bad-clause-reads
returns-in-Err-Bad-clause-reads c =
    let field = sym c.get.ensures.value ∙ ap (option_map (λ (s : Bor (List ℕ)). s.now)) c.in-Some.is in
    let bad = rw c.in-Err-Bad.field-0-is at c.in-Err-Bad.ensures.value in
    let fields = fields_of c.args.row.now in
    let t = c.args.def.now in
    let rest = field_values t (drop (c.columns.i + 1) c.args.def.now.columns) (drop (c.columns.i + 1) fields) in
    let same = c.as_slice-columns.ensures in
    let within : c.columns.i < length c.args.def.now.columns = omega (arith, c.columns-test.true, ap length same) in
    let is = rw same at c.index-columns-i.is in
    let step = value_step t c.args.def.now.columns fields c.columns.i c.index-columns-i.result c.in-Some.field.now within field in
    let first = ap (λ d. field_value t d c.in-Some.field.now ∷ rest) (sym is) in
    let kept = c.in-Err-Bad.ensures.kept in
    rw (c.in-Err-Bad.kind-is, kept) (rest, c.columns.invariant.values ∙ ap (λ l. oks (values_of c.columns.texts (text_columns c.args.def.now.columns) c.columns.cells.items) ++ l) (step ∙ first ∙ ap (λ v. v ∷ rest) bad), ap (λ n. n + 1) (sym c.columns.invariant.as_many))

pub columns-preserved : goal.columns-preserved
columns-preserved c =
    let ks = text_columns c.args.def.now.columns in
    let fields = fields_of c.args.row.now in
    let t = c.args.def.now in
    let rest = field_values t (drop (c.columns.i + 1) c.args.def.now.columns) (drop (c.columns.i + 1) fields) in
    let column = c.index-columns-i.result in
    let field = sym c.get.ensures.value ∙ ap (option_map (λ (s : Bor (List ℕ)). s.now)) c.in-Some.is in
    let value = c.in-Ok.ensures.value in
    let same = c.as_slice-columns.ensures in
    let within : c.columns.i < length c.args.def.now.columns = omega (arith, c.columns-test.true, ap length same) in
    let is = rw same at c.index-columns-i.is in
    let step = value_step t c.args.def.now.columns fields c.columns.i column c.in-Some.field.now within field in
    let first = ap (λ d. field_value t d c.in-Some.field.now ∷ rest) (sym is) in
    let kind : get_or ks (length c.columns.cells.items) false ≡ is_text_column column =
    ap (λ n. get_or ks n false) c.columns.invariant.as_many ∙ get_or-map is_text_column c.args.def.now.columns c.columns.i column false within ∙ ap is_text_column (sym is)
    in
    let room : length c.columns.cells.items < length ks = omega (arith, c.columns.invariant.as_many, within, length-map c.args.def.now.columns is_text_column) in
    let more = cell_more c.args.texts.now c.columns.texts c.read_field.new.texts ks c.columns.cells.items (is_text_column column) c.in-Ok.cell room kind c.columns.invariant.cells c.in-Ok.ensures.noted value.1 c.columns.invariant.noted_are in
    let pushed : c.push.new.self.items ≡ c.columns.cells.items ++ c.in-Ok.cell ∷ [] = search rules in
    rw pushed (record {
      values =
          c.columns.invariant.values
          ∙ ap (λ l. oks (values_of c.columns.texts ks c.columns.cells.items) ++ l) (step ∙ first ∙ ap (λ v. v ∷ rest) value.0)
          ∙ oks-push (values_of c.columns.texts ks c.columns.cells.items) (value_of c.read_field.new.texts (is_text_column column) c.in-Ok.cell) rest
          ∙ ap (λ vs. oks vs ++ rest) (sym more.values);
      cells = more.cells;
      noted_are = more.noted_are;
      as_many = length-append c.columns.cells.items (c.in-Ok.cell ∷ []) ∙ ap (λ n. n + 1) c.columns.invariant.as_many;
    })

-- a record has a field for each column
pub unreachable-requires : goal.unreachable-requires
unreachable-requires c =
    let none = sym c.get.ensures.value ∙ ap (option_map (λ (s : Bor (List ℕ)). s.now)) c.in_default.is in
    let short = field_missing (fields_of c.args.row.now) c.columns.i none in
    absurd (omega (arith, short, c.columns-test.true, ap length c.as_slice-columns.ensures, c.requires.lengths))
