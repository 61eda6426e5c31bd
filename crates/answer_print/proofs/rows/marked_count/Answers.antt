use Rattle.std.proofs.Common.{◌∙◌, sym, arith}
use Rattle.answer_print.proofs.RowTexts.{next_marked, next_other}
use Rattle.answer_print.proofs.rows.marked_count.Goals as goal
use Rattle.answer_print.proofs.rows.marked_count.Goals.{then-is_some, else-is_some}

pub loop-i-preserved : goal.loop-i-preserved
loop-i-preserved c = elim c.if-is_some.branch [
  | then-is_some w ↦
      (next_marked c.args.marks.now.slots c.loop-i.i c.loop-i.count c.if-is_some.count c.get.result c.get.ensures.slot c.loop-i.invariant.0 (sym c.is_some.ensures ∙ w.if-is_some.true) w.count-is, omega (arith, w.count-is, c.loop-i.invariant.1))
  | else-is_some w ↦
      (next_other c.args.marks.now.slots c.loop-i.i c.loop-i.count c.if-is_some.count c.get.result c.get.ensures.slot c.loop-i.invariant.0 (sym c.is_some.ensures ∙ w.if-is_some.false) w.count-is, omega (arith, w.count-is, c.loop-i.invariant.1))
]
