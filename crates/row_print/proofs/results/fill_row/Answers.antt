use Rattle.row_print.proofs.Rows.{row_more}
use Rattle.row_print.proofs.results.fill_row.Goals as goal

pub loop-c-preserved : goal.loop-c-preserved
loop-c-preserved c =
    (row_more c.args.columns.now c.args.i c.loop-c.c-index c.c-item.result _ _ _ c.loop-c-test.true c.c-item.is c.get.ensures.slot c.loop-c.invariant.0 c.in_ok-push_slot.ensures.fields, c.in_ok-push_slot.ensures.partial)
