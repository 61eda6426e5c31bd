use Rattle.std.proofs.Common.{◌^◌, arith}
use Rattle.slot_folds.proofs.StretchLaws.{summed_more, summed_few}
use Rattle.slot_folds.proofs.stretches.total_of_slots.Goals as goal

pub with_slot-total-requires : goal.with_slot-total-requires
with_slot-total-requires c =
    summed_few c.args.values.now.slots c.args.from c.loop-i.i (2 ^ 22) c.loop-i.total (omega (arith, c.requires.within, c.loop-i-test.true)) c.get.ensures.bounded c.loop-i.invariant

pub loop-i-preserved : goal.loop-i-preserved
loop-i-preserved c =
    summed_more c.args.values.now.slots c.args.from c.loop-i.i c.get.result c.loop-i.total c.with_slot-total.result c.loop-i.auto.i c.get.ensures.slot c.with_slot-total.ensures c.loop-i.invariant
