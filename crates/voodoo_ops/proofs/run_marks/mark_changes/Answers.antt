use Rattle.std.proofs.Common.{◌<◌, arith, length, ◌∙◌, sym}
use Rattle.voodoo_ops.proofs.RunMarks.{differs_is, marking_set, marking_keep}
use Rattle.voodoo_ops.proofs.run_marks.mark_changes.Goals as goal
use Rattle.voodoo_ops.proofs.run_marks.mark_changes.Goals.{then-ne, else-ne}

pub loop-i-preserved : goal.loop-i-preserved
loop-i-preserved c =
    let is = differs_is c.args.column.now.slots c.loop-i.i c.get.result c.get-in-loop-i.result c.get.ensures.slot c.get-in-loop-i.ensures.slot ∙ sym c.ne.ensures in
    let few : c.loop-i.i < length c.loop-i.marks = omega (arith, c.loop-i.auto.marks, c.requires, c.len-i-end.ensures.len, c.loop-i-test.true) in
    elim c.if-ne.branch [
      | then-ne w ↦ rw w.marks-is (marking_set _ _ _ c.loop-i.i (omega (arith, c.loop-i.auto.i)) few c.loop-i.invariant (is ∙ w.if-ne.true))
      | else-ne w ↦ rw w.marks-is (marking_keep _ _ _ c.loop-i.i (omega (arith, c.loop-i.auto.i)) c.loop-i.invariant (is ∙ w.if-ne.false))
    ]
