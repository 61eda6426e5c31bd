use Rattle.std.proofs.Common.{sym, ap, ◌∙◌, arith}
use Rattle.typed_trees.specs.Scales.{greatest}
use Rattle.query_types.specs.Expressions.{scales}
use Rattle.std.proofs.Common.{ℕ, ◌+◌, drop}
use Rattle.query_types.proofs.Greatest.{greatest_step}
use Rattle.query_types.proofs.scales.greatest.Goals as goal

pub loop-t-preserved : goal.loop-t-preserved
loop-t-preserved c =
    c.loop-t.invariant
    ∙ greatest_step c.loop-t.most c.args.others.now c.loop-t.t-index c.t-item.result (omega arith) c.t-item.is
    ∙ ap (λ (m : ℕ). greatest m (scales (drop (c.loop-t.t-index + 1) c.args.others.now))) (sym c.greater-most.ensures)
