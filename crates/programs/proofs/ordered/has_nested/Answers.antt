use Rattle.std.proofs.Common.{arith}
use Rattle.programs.proofs.Nesting.{nest_found, nest_none}
use Rattle.programs.proofs.ordered.has_nested.Goals as goal

pub returns-then-starts_with : goal.returns-then-starts_with
returns-then-starts_with c =
    nest_found c.args.paths.now c.loop-i.i c.index-paths-i-in-loop-i.result c.index-paths-i.result c.requires.ascending c.requires.paths c.loop-i.invariant (omega arith) (omega arith) c.index-paths-i.is c.index-paths-i-in-loop-i.is c.if-starts_with.ensures.below

pub returns : goal.returns
returns c = nest_none c.args.paths.now c.loop-i.i c.requires.ascending c.requires.paths c.loop-i.invariant (omega arith) (omega arith)
