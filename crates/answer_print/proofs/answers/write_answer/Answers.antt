use Rattle.std.proofs.Common.{◌≡◌, ◌∙◌, ◌++◌, ◌∷◌, ◌≤◌, ℕ, List, [], ap, sym, subst, arith, length}
use Rattle.std.specs.Prelude.{All}
use Rattle.std.specs.Io.KnownBytes.{Appends}
use Rattle.std.proofs.KnownBytes.{Appends-trans}
use Rattle.std.proofs.lemmas.List.{append-nil}
use Rattle.io_edge.specs.Sinks.{AppendsPrefix}
use Rattle.programs.specs.Vectors.{seen, seen_all}
use Rattle.row_print.specs.Results.{rows_text}
use Rattle.row_print.proofs.Growing.{on_err, map_err, map_ok, prefix_first, prefix_next}
use Rattle.answer_print.specs.Held.{answer_in, marked_places}
use Rattle.answer_print.specs.Shown.{seen_item, seen_items, shown_text}
use Rattle.answer_print.specs.Conditions.{HoldsValues}
use Rattle.answer_print.proofs.RowTexts.{answer_parts, first_places, marked_few, values_held}
use Rattle.answer_print.proofs.answers.write_answer.Goals as goal

pub returns-in_err-write_all-clause-prefix : goal.returns-in_err-write_all-clause-prefix
returns-in_err-write_all-clause-prefix g c =
    let count = c.marked_count-count.ensures ∙ ap (λ l. length (marked_places l)) c.attribute.ensures.slots in
    let parts = answer_parts c.args.db.now.dictionary c.args.q.now (seen_all c.args.r.now) (seen c.answer-v.result.now) (seen_items c.in_ok-items.items.items) c.marked_count-count.result c.answer-v.ensures c.in_ok-items.ensures.columns
    (first_places (seen c.answer-v.result.now) (answer_in (seen_all c.args.r.now)) c.marked_count-count.result c.answer-v.ensures count c.requires.held.first) in
    on_err c.from_residual-in_err-write_all.result _
    (prefix_first _ _ _ _ _ parts (subst (AppendsPrefix _ _) (c.as_slice-2.ensures.value ∙ c.in_ok-head.ensures ∙ ap (λ l. rows_text (l ∷ [])) c.as_slice.ensures) c.in_err-write_all.ensures.prefix))

pub write_rows-requires-clause-few : goal.write_rows-requires-clause-few
write_rows-requires-clause-few g c = omega (arith, c.marked_count-count.ensures, marked_few c.attribute.result.now.slots, c.attribute.ensures.len, c.attribute.ensures.short)

pub write_rows-requires-clause-within : goal.write_rows-requires-clause-within
write_rows-requires-clause-within g c =
    subst (λ items. All (λ it. c.marked_count-count.result ≤ length it.column.now.slots) items) (sym c.as_slice-3.ensures.value)
    (λ k d l. omega (arith, c.marked_count-count.ensures, marked_few c.attribute.result.now.slots, c.attribute.ensures.len, c.in_ok-items.ensures.long k d l))

pub write_rows-requires-clause-values : goal.write_rows-requires-clause-values
write_rows-requires-clause-values g c =
    let count = c.marked_count-count.ensures ∙ ap (λ l. length (marked_places l)) c.attribute.ensures.slots in
    subst (λ items. All (λ it. HoldsValues c.marked_count-count.result (seen_item it)) items) (sym c.as_slice-3.ensures.value)
    (values_held c.args.q.now (seen c.answer-v.result.now) (answer_in (seen_all c.args.r.now)) c.in_ok-items.items.items c.marked_count-count.result c.answer-v.ensures c.in_ok-items.ensures.columns count c.requires.held.values)

pub returns-clause-whole : goal.returns-clause-whole
returns-clause-whole g c =
    let count = c.marked_count-count.ensures ∙ ap (λ l. length (marked_places l)) c.attribute.ensures.slots in
    let parts = answer_parts c.args.db.now.dictionary c.args.q.now (seen_all c.args.r.now) (seen c.answer-v.result.now) (seen_items c.in_ok-items.items.items) c.marked_count-count.result c.answer-v.ensures c.in_ok-items.ensures.columns
    (first_places (seen c.answer-v.result.now) (answer_in (seen_all c.args.r.now)) c.marked_count-count.result c.answer-v.ensures count c.requires.held.first) in
    let head : Appends (g.O.Sink.written c.args.out.now) (g.O.Sink.written c.write_all.new.out) (rows_text (c.args.q.now.names ∷ [])) =
    subst (Appends _ _) (c.as_slice-2.ensures.value ∙ c.in_ok-head.ensures ∙ ap (λ l. rows_text (l ∷ [])) c.as_slice.ensures) c.in_ok-write_all.ensures.whole in
    let rows : shown_text c.dictionary.result.now (seen_items c.as_slice-3.result.now) 0 c.marked_count-count.result ≡ shown_text c.args.db.now.dictionary (seen_items c.in_ok-items.items.items) 0 c.marked_count-count.result =
    λ i. shown_text (c.dictionary.ensures i) (seen_items (c.as_slice-3.ensures.value i)) 0 c.marked_count-count.result in
    map_ok c.write_rows.result _ _
    (λ written. subst (Appends _ _) (ap (λ (l : List ℕ). rows_text (c.args.q.now.names ∷ []) ++ l) rows ∙ sym parts) (Appends-trans _ _ _ _ _ head written))
    c.write_rows.ensures.whole

pub returns-clause-prefix : goal.returns-clause-prefix
returns-clause-prefix g c =
    let count = c.marked_count-count.ensures ∙ ap (λ l. length (marked_places l)) c.attribute.ensures.slots in
    let parts = answer_parts c.args.db.now.dictionary c.args.q.now (seen_all c.args.r.now) (seen c.answer-v.result.now) (seen_items c.in_ok-items.items.items) c.marked_count-count.result c.answer-v.ensures c.in_ok-items.ensures.columns
    (first_places (seen c.answer-v.result.now) (answer_in (seen_all c.args.r.now)) c.marked_count-count.result c.answer-v.ensures count c.requires.held.first) in
    let head : Appends (g.O.Sink.written c.args.out.now) (g.O.Sink.written c.write_all.new.out) (rows_text (c.args.q.now.names ∷ [])) =
    subst (Appends _ _) (c.as_slice-2.ensures.value ∙ c.in_ok-head.ensures ∙ ap (λ l. rows_text (l ∷ [])) c.as_slice.ensures) c.in_ok-write_all.ensures.whole in
    let rows : shown_text c.args.db.now.dictionary (seen_items c.in_ok-items.items.items) 0 c.marked_count-count.result ≡ shown_text c.dictionary.result.now (seen_items c.as_slice-3.result.now) 0 c.marked_count-count.result =
    λ i. shown_text (sym c.dictionary.ensures i) (seen_items (sym c.as_slice-3.ensures.value i)) 0 c.marked_count-count.result in
    map_err c.write_rows.result _ _ (prefix_next _ _ _ _ _ [] _ (parts ∙ ap (λ (l : List ℕ). rows_text (c.args.q.now.names ∷ []) ++ l) (rows ∙ sym (append-nil _))) head) c.write_rows.ensures.prefix
