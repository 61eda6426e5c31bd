use Rattle.std.proofs.Common.{rules, ◌≡◌, ◌∙◌, ◌≤◌, ◌<◌, ◌∷◌, [], Ok, false, inl, inr, sym, ap, length, w64, FitsSigned}
use Rattle.std.specs.Str.{is_utf8}
use Rattle.std.proofs.lemmas.Bool.{cases_Bool}
use Rattle.std.proofs.lemmas.Int.{to_z-of_z}
use Rattle.std.proofs.lemmas.Option.{slice_get_within}
use Rattle.std.proofs.lemmas.Str.{IsUtf8-from_is_utf8, is_utf8-from_IsUtf8}
use Rattle.sql_values.specs.Values.{Value, text}
use Rattle.table_load.specs.Databases.{row_texts}
use Rattle.table_load.specs.HeldColumns.{noted}
use Rattle.table_load.proofs.FieldLaws.{text_fits, text_long, text_not}
use Rattle.table_load.proofs.Rowwise.{noted_one, text_cell}
use Rattle.table_load.proofs.fields.read_text.Goals as goal

pub returns-then-text-width-clause-value : goal.returns-then-text-width-clause-value
returns-then-text-width-clause-value c =
    let utf8 = is_utf8-from_IsUtf8 c.args.field.now c.in-Ok.ensures.cases.1 in
    let long : c.args.width < length c.args.field.now = search rules in
    text_long c.args.width c.args.field.now utf8 long

pub returns-in-Ok-note-clause-value : goal.returns-in-Ok-note-clause-value
returns-in-Ok-note-clause-value c =
    let utf8 = is_utf8-from_IsUtf8 c.args.field.now c.in-Ok.ensures.cases.1 in
    let fits : FitsSigned w64 c.in-Ok-note.place = search rules in
    let short : length c.args.field.now ≤ c.args.width = search rules in
    let same : c.in-Ok.text.now ≡ c.args.field.now = search rules in
    let (n, e, s) = c.in-Ok-note.ensures.place in
    let cell = text_cell c.note.new.self c.in-Ok-note.place c.in-Ok.text.now n e s (slice_get_within c.note.new.self n c.in-Ok.text.now s) in
    rw (to_z-of_z w64 c.in-Ok-note.place fits) (text_fits c.args.width c.args.field.now utf8 short ∙ ap Ok (ap text (sym same) ∙ cell.0), cell.1)

pub returns-in-Ok-note-clause-noted : goal.returns-in-Ok-note-clause-noted
returns-in-Ok-note-clause-noted c =
    let fits : FitsSigned w64 c.in-Ok-note.place = search rules in
    let (n, e, s) = c.in-Ok-note.ensures.place in
    let cell = text_cell c.note.new.self c.in-Ok-note.place c.in-Ok.text.now n e s (slice_get_within c.note.new.self n c.in-Ok.text.now s) in
    rw (to_z-of_z w64 c.in-Ok-note.place fits) (c.in-Ok-note.ensures.noted ∙ noted_one c.args.texts.now c.in-Ok.text.now ∙ ap (λ (v : Value). noted c.args.texts.now (row_texts (v ∷ []))) cell.0)

pub returns-in-Err-clause-value : goal.returns-in-Err-clause-value
returns-in-Err-clause-value c =
    text_not c.args.width c.args.field.now
    (elim (cases_Bool (is_utf8 c.args.field.now)) as (λ _. is_utf8 c.args.field.now ≡ false) [
      | inl good ↦ absurd (c.in-Err.ensures.cases.0 (IsUtf8-from_is_utf8 c.args.field.now good))
      | inr bad ↦ bad
    ])
