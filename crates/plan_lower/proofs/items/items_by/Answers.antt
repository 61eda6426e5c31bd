use Rattle.std.proofs.Common.{◌+◌, arith}
use Rattle.std.specs.List.{enumerate_from}
use Rattle.program_writers.specs.Writers.{through}
use Rattle.program_writers.proofs.Writing.{numbered_next, numbered_end}
use Rattle.plan_programs.specs.Items as spec
use Rattle.plan_lower.proofs.items.items_by.Goals as goal

pub loop-k-preserved : goal.loop-k-preserved
loop-k-preserved c = numbered_next (spec.item_of c.args.dictionary.now c.args.b.now) c.args.items.now c.loop-k.k (c.loop-k.k + 1) c.index-items-k.result c.args.w.now c.loop-k.w c.item_of.new.w (through (spec.item_of c.args.dictionary.now c.args.b.now) c.args.vector (enumerate_from 1 c.args.items.now)) c.loop-k.vector c.in_ok-vector.vector (omega (arith, c.loop-k-test.true)) c.index-items-k.is c.loop-k.invariant c.in_ok-vector.ensures

pub returns : goal.returns
returns c = numbered_end (spec.item_of c.args.dictionary.now c.args.b.now) c.args.items.now c.loop-k.k (c.loop-k.k + 1) c.args.w.now c.loop-k.w (through (spec.item_of c.args.dictionary.now c.args.b.now) c.args.vector (enumerate_from 1 c.args.items.now)) c.loop-k.vector (omega (arith, c.loop-k-test.false)) c.loop-k.invariant
