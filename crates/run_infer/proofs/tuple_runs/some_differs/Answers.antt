use Rattle.std.proofs.Common.{◌∙◌, sym, arith}
use Rattle.run_infer.proofs.TupleLaws.{differs_is, no_part_more, some_part}
use Rattle.run_infer.proofs.tuple_runs.some_differs.Goals as goal

pub returns-then-ne : goal.returns-then-ne
returns-then-ne c =
    some_part c.args.parts.now c.args.i c.loop-part.part-index c.part-item.result (omega arith) c.part-item.is
    (differs_is c.part-item.result.slots c.args.i c.get.result c.get-in-loop-part.result c.get.ensures.slot c.get-in-loop-part.ensures.slot ∙ sym c.ne.ensures ∙ c.if-ne.true)

pub loop-part-preserved : goal.loop-part-preserved
loop-part-preserved c =
    no_part_more c.args.parts.now c.args.i c.loop-part.part-index c.part-item.result (omega arith) c.part-item.is c.loop-part.invariant
    (differs_is c.part-item.result.slots c.args.i c.get.result c.get-in-loop-part.result c.get.ensures.slot c.get-in-loop-part.ensures.slot ∙ sym c.ne.ensures ∙ c.if-ne.false)
