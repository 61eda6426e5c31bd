use Rattle.std.proofs.Common.{arith}
use Rattle.data_make.proofs.Growing.{row_more}
use Rattle.data_make.proofs.rows.make_table.Goals as goal

pub loop-i-preserved : goal.loop-i-preserved
loop-i-preserved c = (omega (arith, c.loop-i.invariant.0), row_more c.args.seed c.loop-i.i _ _ c.loop-i.invariant.0 c.loop-i.invariant.1 c.in_ok-push_row.ensures)
