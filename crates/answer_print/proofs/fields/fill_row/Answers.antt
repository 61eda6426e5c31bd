use Rattle.answer_print.proofs.RowTexts.{row_more}
use Rattle.answer_print.proofs.fields.fill_row.Goals as goal

pub loop-item-preserved : goal.loop-item-preserved
loop-item-preserved c =
    (row_more c.args.dictionary.now c.args.items.now c.args.i c.loop-item.item-index c.item-item.result _ _ c.loop-item-test.true c.item-item.is c.loop-item.invariant.0 c.in_ok-push_field.ensures.fields, c.in_ok-push_field.ensures.partial)
