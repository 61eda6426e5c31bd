use Rattle.std.proofs.Common.{arith}
use Rattle.std.specs.List.{enumerate_from}
use Rattle.program_writers.specs.Writers.{through}
use Rattle.program_writers.proofs.Writing.{numbered_next, numbered_end}
use Rattle.plan_programs.specs.Groups as spec
use Rattle.row_lower.proofs.Lists.{any_default}
use Rattle.group_lower.proofs.groups.runs_by.Goals as goal

pub loop-j-preserved : goal.loop-j-preserved
loop-j-preserved c = numbered_next (spec.run_by c.args.rows.now) c.args.columns.now c.loop-j.j c.loop-j.j _ c.args.w.now c.loop-j.w c.run_by.new.w (through (spec.run_by c.args.rows.now) c.args.runs (enumerate_from 0 c.args.columns.now)) c.loop-j.runs c.in_ok-runs.runs (omega (arith, c.loop-j-test.true)) (any_default c.args.columns.now c.loop-j.j _ (omega (arith, c.loop-j-test.true))) c.loop-j.invariant c.in_ok-runs.ensures

pub returns : goal.returns
returns c = numbered_end (spec.run_by c.args.rows.now) c.args.columns.now c.loop-j.j c.loop-j.j c.args.w.now c.loop-j.w (through (spec.run_by c.args.rows.now) c.args.runs (enumerate_from 0 c.args.columns.now)) c.loop-j.runs (omega (arith, c.loop-j-test.false)) c.loop-j.invariant
