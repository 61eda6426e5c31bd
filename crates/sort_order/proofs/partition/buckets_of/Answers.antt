use Rattle.std.proofs.Common.{◌≤◌, ◌^◌, length, arith}
use Rattle.sort_order.proofs.CellLaws.{over_at, clear_more, clear_all}
use Rattle.sort_order.proofs.PairLaws.{buckets_more, buckets_all, buckets_few}
use Rattle.sort_order.proofs.partition.buckets_of.Goals as goal

pub returns-in-Err-slot : goal.returns-in-Err-slot
returns-in-Err-slot g c = over_at (g.K.SlotSource.cells c.args.key.now) c.loop-i.i c.in-Err-slot.field-0 c.in-Err-slot.ensures.slot

pub loop-i-preserved : goal.loop-i-preserved
loop-i-preserved g c =
    let cells = g.K.SlotSource.cells c.args.key.now in
    record {
      clear = clear_more cells c.loop-i.i c.in-Ok-slot.s c.loop-i.invariant.clear c.in-Ok-slot.ensures.slot;
      buckets = buckets_more c.args.pivots.now cells c.loop-i.buckets.items c.push.new.self.items c.loop-i.i c.in-Ok-slot.s c.bucket_of.result c.in-Ok-push.ensures.items c.bucket_of.ensures c.in-Ok-slot.ensures.slot c.loop-i.invariant.buckets;
    }

pub returns : goal.returns
returns g c =
    let cells = g.K.SlotSource.cells c.args.key.now in
    let long : length cells ≤ c.loop-i.i = omega (arith, c.len-n.ensures.len, c.loop-i-test.false) in
    let all = buckets_all c.args.pivots.now cells c.loop-i.buckets.items c.loop-i.i long c.loop-i.invariant.buckets in
    (clear_all cells c.loop-i.i long c.loop-i.invariant.clear, all, buckets_few c.args.pivots.now cells c.loop-i.buckets.items (2 ^ 22) c.len-n.ensures.bounded all)
