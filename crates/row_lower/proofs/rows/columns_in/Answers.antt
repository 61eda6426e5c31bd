use Rattle.std.proofs.Common.{arith}
use Rattle.program_writers.specs.Writers.{through}
use Rattle.program_writers.proofs.Writing.{item_next, items_end}
use Rattle.plan_programs.specs.Rows as spec
use Rattle.row_lower.proofs.Lists.{any_default}
use Rattle.row_lower.proofs.rows.columns_in.Goals as goal

pub loop-k-preserved : goal.loop-k-preserved
loop-k-preserved c = item_next (spec.column_in c.args.def.now c.args.source c.args.table.now) c.args.columns.now c.loop-k.k-index _ c.args.w.now c.loop-k.w c.column_in.new.w (through (spec.column_in c.args.def.now c.args.source c.args.table.now) c.args.b c.args.columns.now) c.loop-k.b c.in_ok-b.b (omega (arith, c.loop-k-test.true)) (any_default c.args.columns.now c.loop-k.k-index _ (omega (arith, c.loop-k-test.true))) c.loop-k.invariant c.in_ok-b.ensures

pub returns : goal.returns
returns c = items_end (spec.column_in c.args.def.now c.args.source c.args.table.now) c.args.columns.now c.loop-k.k-index c.args.w.now c.loop-k.w (through (spec.column_in c.args.def.now c.args.source c.args.table.now) c.args.b c.args.columns.now) c.loop-k.b (omega (arith, c.loop-k-test.false)) c.loop-k.invariant
