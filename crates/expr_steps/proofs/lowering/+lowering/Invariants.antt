use Rattle.std.proofs.Common.{drop, map}
use Rattle.expr_steps.specs.Lowered.{part_of, any_equal, first_there, zero}
use Rattle.expr_steps.proofs.Compiled.{Continues}
use Rattle.expr_steps.proofs.lowering.+lowering.Given as goal

abbrev pub invariant-lower_among-loop-y : goal.invariant-lower_among-loop-y
invariant-lower_among-loop-y l =
    Continues (any_equal l.dictionary (part_of l.dictionary l.x) l.a (map (part_of l.dictionary) (drop l.y-index l.others))) l.fn.steps.items
    (any_equal l.dictionary (part_of l.dictionary l.x) l.a (map (part_of l.dictionary) l.others) zero) l.steps.items l.found

abbrev pub invariant-lower_first_there-loop-y : goal.invariant-lower_first_there-loop-y
invariant-lower_first_there-loop-y l =
    Continues (first_there l.to (map (part_of l.dictionary) (drop l.y-index l.others))) l.fn.steps.items
    (first_there l.to (map (part_of l.dictionary) l.others) l.fn.first) l.steps.items l.found
