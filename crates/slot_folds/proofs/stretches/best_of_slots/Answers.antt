use Rattle.slot_folds.proofs.StretchLaws.{best_more}
use Rattle.slot_folds.proofs.stretches.best_of_slots.Goals as goal

pub loop-i-preserved : goal.loop-i-preserved
loop-i-preserved c =
    best_more c.args.kind c.args.values.now.slots c.args.from c.loop-i.i c.loop-i.best c.better-best.result c.get.result c.requires.best c.loop-i.auto.i c.get.ensures.slot c.better-best.ensures c.loop-i.invariant
