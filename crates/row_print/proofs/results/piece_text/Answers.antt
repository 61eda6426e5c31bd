use Rattle.std.proofs.Common.{arith}
use Rattle.row_print.specs.Results.{slots_in}
use Rattle.row_print.proofs.Rows.{rows_more}
use Rattle.row_print.proofs.results.piece_text.Goals as goal

pub loop-i-preserved : goal.loop-i-preserved
loop-i-preserved c =
    (omega (arith, c.loop-i.invariant.0), rows_more (slots_in c.args.columns.now) c.args.from c.loop-i.i _ _ _ c.loop-i.invariant.0 c.in_ok-fill_row.ensures.fields c.loop-i.invariant.1 c.in_ok-add.ensures.added)
