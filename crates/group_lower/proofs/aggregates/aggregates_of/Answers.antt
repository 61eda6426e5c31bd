use Rattle.std.proofs.Common.{arith}
use Rattle.std.specs.List.{enumerate_from}
use Rattle.program_writers.specs.Writers.{through}
use Rattle.program_writers.proofs.Writing.{numbered_next, numbered_end}
use Rattle.plan_programs.specs.Groups as spec
use Rattle.group_lower.proofs.aggregates.aggregates_of.Goals as goal

pub loop-n-preserved : goal.loop-n-preserved
loop-n-preserved c = numbered_next (spec.aggregate_of c.args.dictionary.now c.args.f.now) c.args.aggregates.now c.loop-n.n c.loop-n.n c.index-aggregates-n.result c.args.w.now c.loop-n.w c.aggregate_of.new.w (through (spec.aggregate_of c.args.dictionary.now c.args.f.now) c.args.groups (enumerate_from 0 c.args.aggregates.now)) c.loop-n.groups c.in_ok-groups.groups (omega (arith, c.loop-n-test.true)) c.index-aggregates-n.is c.loop-n.invariant c.in_ok-groups.ensures

pub returns : goal.returns
returns c = numbered_end (spec.aggregate_of c.args.dictionary.now c.args.f.now) c.args.aggregates.now c.loop-n.n c.loop-n.n c.args.w.now c.loop-n.w (through (spec.aggregate_of c.args.dictionary.now c.args.f.now) c.args.groups (enumerate_from 0 c.args.aggregates.now)) c.loop-n.groups (omega (arith, c.loop-n-test.false)) c.loop-n.invariant
