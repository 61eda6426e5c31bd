use Rattle.std.proofs.Common.{arith}
use Rattle.answer_print.specs.Shown.{seen_items, shown_row}
use Rattle.answer_print.proofs.RowTexts.{rows_more}
use Rattle.answer_print.proofs.rows.piece_text.Goals as goal

pub fill_row-requires-clause-values : goal.fill_row-requires-clause-values
fill_row-requires-clause-values c = λ k d l. c.requires.values k d l c.loop-i.i (omega (arith, c.loop-i-test.true))

pub loop-i-preserved : goal.loop-i-preserved
loop-i-preserved c =
    (omega (arith, c.loop-i.invariant.0), rows_more (shown_row c.args.dictionary.now (seen_items c.args.items.now)) c.args.from c.loop-i.i _ _ _ c.loop-i.invariant.0 c.in_ok-fill_row.ensures.fields c.loop-i.invariant.1 c.in_ok-add.ensures.added)
