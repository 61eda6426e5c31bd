use Rattle.std.proofs.Common.{◌∙◌, ap, map, arith}
use Rattle.typed_trees.specs.Scales.{scale_of}
use Rattle.typed_values.specs.Narrow.{counted}
use Rattle.answer_print.proofs.Counted.{greatest_counted, greatest_next, scale_chosen}
use Rattle.answer_print.proofs.scales.+scales.Goals as goal

pub greatest_scale-loop-y-init : goal.greatest_scale-loop-y-init
greatest_scale-loop-y-init t c = rw c.counted-most.ensures (greatest_counted c.args.first (map scale_of c.args.others.now))

pub greatest_scale-loop-y-preserved : goal.greatest_scale-loop-y-preserved
greatest_scale-loop-y-preserved t c =
    rw c.max-most.ensures
    (c.loop-y.invariant ∙ greatest_next c.loop-y.most c.args.others.now c.loop-y.y-index c.y-item.result c.scale.result (omega (arith, c.loop-y-test.true)) c.y-item.is c.scale.ensures)

pub scale-returns-in-Coalesce : goal.scale-returns-in-Coalesce
scale-returns-in-Coalesce t c =
    c.greatest_scale.ensures
    ∙ rw c.as_slice.ensures
    (scale_chosen c.args.e.now c.in-Coalesce.x c.in-Coalesce.others c.scale-in-Coalesce.result c.in-Coalesce.is (c.scale-in-Coalesce.ensures ∙ ap (λ x. counted (scale_of x)) c.get-in-Coalesce.ensures))
