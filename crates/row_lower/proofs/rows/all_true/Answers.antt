use Rattle.std.proofs.Common.{arith}
use Rattle.program_writers.specs.Writers.{through}
use Rattle.program_writers.proofs.Writing.{item_next, items_end}
use Rattle.plan_programs.specs.Rows as spec
use Rattle.row_lower.proofs.rows.all_true.Goals as goal

pub loop-e-preserved : goal.loop-e-preserved
loop-e-preserved c = item_next (spec.and_true c.args.dictionary.now c.args.b.now) c.args.conditions.now c.loop-e.e-index c.e-item.result c.args.w.now c.loop-e.w c.and_true.new.w (through (spec.and_true c.args.dictionary.now c.args.b.now) c.args.all c.args.conditions.now) c.loop-e.all c.in_ok-all.all (omega (arith, c.loop-e-test.true)) c.e-item.is c.loop-e.invariant c.in_ok-all.ensures

pub returns : goal.returns
returns c = items_end (spec.and_true c.args.dictionary.now c.args.b.now) c.args.conditions.now c.loop-e.e-index c.args.w.now c.loop-e.w (through (spec.and_true c.args.dictionary.now c.args.b.now) c.args.all c.args.conditions.now) c.loop-e.all (omega (arith, c.loop-e-test.false)) c.loop-e.invariant
