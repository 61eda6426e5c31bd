use Rattle.std.proofs.Common.{arith}
use Rattle.std.specs.List.{enumerate_from}
use Rattle.program_writers.specs.Writers.{through}
use Rattle.program_writers.proofs.Writing.{numbered_next, numbered_end}
use Rattle.plan_programs.specs.Items as spec
use Rattle.row_lower.proofs.Lists.{any_default}
use Rattle.plan_lower.proofs.items.keys_by.Goals as goal

pub loop-j-preserved : goal.loop-j-preserved
loop-j-preserved c = numbered_next (spec.numbered_key c.args.b.now c.args.items.now) c.args.keys.now c.loop-j.j c.loop-j.j _ c.args.w.now c.loop-j.w c.numbered_key.new.w (through (spec.numbered_key c.args.b.now c.args.items.now) c.args.vector (enumerate_from 0 c.args.keys.now)) c.loop-j.vector c.in_ok-vector.vector (omega (arith, c.loop-j-test.true)) (any_default c.args.keys.now c.loop-j.j _ (omega (arith, c.loop-j-test.true))) c.loop-j.invariant c.in_ok-vector.ensures

pub returns : goal.returns
returns c = numbered_end (spec.numbered_key c.args.b.now c.args.items.now) c.args.keys.now c.loop-j.j c.loop-j.j c.args.w.now c.loop-j.w (through (spec.numbered_key c.args.b.now c.args.items.now) c.args.vector (enumerate_from 0 c.args.keys.now)) c.loop-j.vector (omega (arith, c.loop-j-test.false)) c.loop-j.invariant
