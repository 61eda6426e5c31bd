use Rattle.std.proofs.Common.{◌≡◌, ◌++◌, ℕ, List, [], refl, length, sym, subst, ap, ◌∙◌}
use Rattle.std.specs.Io.KnownBytes.{Appends}
use Rattle.std.proofs.KnownBytes.{Appends-trans}
use Rattle.std.proofs.lemmas.List.{append-nil}
use Rattle.std.proofs.lemmas.List.Elements.{All-map}
use Rattle.io_edge.specs.Sinks.{AppendsPrefix}
use Rattle.struct_vectors.specs.Vectors.{columns_of}
use Rattle.row_print.specs.Results.{rows_text, head_rows, place_rows, slots_in}
use Rattle.row_print.proofs.Growing.{on_err, map_err, map_ok, prefix_first, prefix_next}
use Rattle.row_print.proofs.Rows.{result_is}
use Rattle.row_print.proofs.results.write_result.Goals as goal

pub returns-in_err-write_all-clause-prefix : goal.returns-in_err-write_all-clause-prefix
returns-in_err-write_all-clause-prefix g c =
    on_err c.from_residual-in_err-write_all.result _
    (prefix_first _ _ _ _ _ (result_is c.args.name.now c.args.v.now _ _ c.len.ensures.len c.paths.ensures.paths) (subst (AppendsPrefix _ _) (c.as_slice.ensures.value ∙ c.in_ok-head.ensures) c.in_err-write_all.ensures.prefix))

pub write_places-requires-clause-lengths : goal.write_places-requires-clause-lengths
write_places-requires-clause-lengths g c =
    rw (c.columns.ensures.columns, c.len-2.ensures.len) (All-map (λ x. length x.slots ≡ c.args.v.now.length) (λ a. a.1) c.args.v.now.attributes c.len.ensures.shaped.lengths)

pub returns-clause-whole : goal.returns-clause-whole
returns-clause-whole g c =
    let places : rows_text (place_rows (slots_in (columns_of c.args.v.now.attributes)) 0 c.args.v.now.length) ≡ rows_text (place_rows (slots_in c.columns.result.now) 0 c.len-2.result) =
    rw (c.columns.ensures.columns, c.len-2.ensures.len) refl in
    let whole = result_is c.args.name.now c.args.v.now _ _ c.len.ensures.len c.paths.ensures.paths ∙ ap (λ (l : List ℕ). rows_text (head_rows c.args.name.now c.len.result c.paths.result.now) ++ l) places in
    map_ok c.write_places.result _ _
    (λ written. subst (Appends _ _) (ap (λ (l : List ℕ). l ++ rows_text (place_rows (slots_in c.columns.result.now) 0 c.len-2.result)) (c.as_slice.ensures.value ∙ c.in_ok-head.ensures) ∙ sym whole) (Appends-trans _ _ _ _ _ c.in_ok-write_all.ensures.whole written))
    c.write_places.ensures.whole

pub returns-clause-prefix : goal.returns-clause-prefix
returns-clause-prefix g c =
    let head : Appends (g.O.Sink.written c.args.out.now) (g.O.Sink.written c.write_all.new.out) (rows_text (head_rows c.args.name.now c.len.result c.paths.result.now)) =
    subst (Appends _ _) (c.as_slice.ensures.value ∙ c.in_ok-head.ensures) c.in_ok-write_all.ensures.whole in
    let places : rows_text (place_rows (slots_in (columns_of c.args.v.now.attributes)) 0 c.args.v.now.length) ≡ rows_text (place_rows (slots_in c.columns.result.now) 0 c.len-2.result) =
    rw (c.columns.ensures.columns, c.len-2.ensures.len) refl in
    let whole = result_is c.args.name.now c.args.v.now _ _ c.len.ensures.len c.paths.ensures.paths ∙ ap (λ (l : List ℕ). rows_text (head_rows c.args.name.now c.len.result c.paths.result.now) ++ l) (places ∙ sym (append-nil _)) in
    map_err c.write_places.result _ _ (prefix_next _ _ _ _ _ [] _ whole head) c.write_places.ensures.prefix
