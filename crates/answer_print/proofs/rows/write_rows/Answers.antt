use Rattle.std.proofs.Common.{arith, subst, ap, ◌∙◌, ◌+◌, ◌≤◌, ◌++◌}
use Rattle.std.specs.Io.KnownBytes.{Appends}
use Rattle.io_edge.specs.Sinks.{AppendsPrefix}
use Rattle.std.proofs.KnownBytes.{Appends-trans}
use Rattle.row_print.proofs.Growing.{on_err, prefix_whole, prefix_next}
use Rattle.answer_print.specs.Shown.{seen_items, shown_row, shown_text}
use Rattle.answer_print.proofs.RowTexts.{places_split, places_more, places_next}
use Rattle.answer_print.proofs.rows.write_rows.Goals as goal

pub piece_text-requires-clause-within : goal.piece_text-requires-clause-within
piece_text-requires-clause-within g c = λ k d l. omega (arith, c.requires.within k d l, c.min-count.ensures, c.pieces-test.true)

pub piece_text-requires-clause-values : goal.piece_text-requires-clause-values
piece_text-requires-clause-values g c = λ k d l i below. c.requires.values k d l i (omega (arith, below, c.min-count.ensures, c.pieces-test.true))

pub returns-in_err-piece-clause-prefix : goal.returns-in_err-piece-clause-prefix
returns-in_err-piece-clause-prefix g c =
    on_err c.from_residual.result _ (prefix_whole _ _ _ _ _ (places_split (shown_row c.args.dictionary.now (seen_items c.args.items.now)) c.pieces.from c.args.len c.pieces.invariant.0) c.pieces.invariant.2)

pub returns-in_err-write_all-clause-prefix : goal.returns-in_err-write_all-clause-prefix
returns-in_err-write_all-clause-prefix g c =
    let within : c.pieces.from + c.min-count.result ≤ c.args.len = omega (arith, c.min-count.ensures, c.pieces-test.true) in
    on_err c.from_residual-in_err-write_all.result _
    (prefix_next _ _ _ _ _ _ _ (places_next (shown_row c.args.dictionary.now (seen_items c.args.items.now)) c.pieces.from c.min-count.result c.args.len within) c.pieces.invariant.2
    (subst (AppendsPrefix _ _) (c.as_slice.ensures.value ∙ c.in_ok-piece.ensures) c.in_err-write_all.ensures.prefix))

pub pieces-preserved : goal.pieces-preserved
pieces-preserved g c =
    let row = shown_row c.args.dictionary.now (seen_items c.args.items.now) in
    let within : c.pieces.from + c.min-count.result ≤ c.args.len = omega (arith, c.min-count.ensures, c.pieces-test.true) in (
      within,
      omega (arith, c.pieces.invariant.1, c.write_all.ensures.cause.later),
      subst (Appends _ _) (ap (λ l. shown_text c.args.dictionary.now (seen_items c.args.items.now) 0 c.pieces.from ++ l) (c.as_slice.ensures.value ∙ c.in_ok-piece.ensures) ∙ places_more row c.pieces.from c.min-count.result)
          (Appends-trans _ _ _ _ _ c.pieces.invariant.2 c.in_ok-write_all.ensures.whole),
    )
