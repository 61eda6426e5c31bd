use Rattle.std.proofs.Common.{length, arith, refl, map, Err, Ok}
use Rattle.control_vectors.specs.Slots.{over, has_over, slots_in}
use Rattle.sort_order.specs.Buckets.{bucket}
use Rattle.sort_order.proofs.CellLaws.{over_at}
use Rattle.move_kernels.specs.Kernels.{bucketed_from, stretch}
use Rattle.move_kernels.proofs.Stretches.{filled_more, get_stretch, meant_over, writes_over}
use Rattle.move_kernels.proofs.bucketing.bucket_into.Goals as goal

pub returns-in_err-s : goal.returns-in_err-s
returns-in_err-s g c =
    let cells = g.K.SlotSource.cells c.args.key.now in
    let n = length c.args.out.now in
    let part = stretch cells c.args.first n in
    let at = get_stretch cells c.args.first n c.loop-k.k _ (Err c.in_err-s.field-0.0) refl c.loop-k-test.true c.in_err-s.ensures.slot in
    writes_over c.from_residual.result (bucketed_from c.args.pivots.now cells c.args.first n) c.loop-k.out c.from_residual.ensures.0
    (meant_over (has_over part) (Err over) (Ok (map (bucket c.args.pivots.now) (slots_in part))) (over_at part c.loop-k.k c.in_err-s.field-0.0 at))

pub loop-k-preserved : goal.loop-k-preserved
loop-k-preserved g c =
    let cells = g.K.SlotSource.cells c.args.key.now in
    let n = length c.args.out.now in
    let part = stretch cells c.args.first n in
    let at = get_stretch cells c.args.first n c.loop-k.k _ (Ok c.in_ok-s.s) refl c.loop-k-test.true c.in_ok-s.ensures.slot in
    filled_more (bucket c.args.pivots.now) part c.loop-k.k c.loop-k.out _ c.in_ok-s.s c.bucket_of.result
    (omega (arith, c.loop-k-test.true, c.loop-k.auto.out)) at c.bucket_of.ensures refl c.loop-k.invariant
