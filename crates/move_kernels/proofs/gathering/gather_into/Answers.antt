use Rattle.std.proofs.Common.{◌||◌, length, arith, refl, Err, Ok}
use Rattle.control_vectors.specs.Slots.{over, has_over, slots_in}
use Rattle.slot_moves.specs.Moves.{gathered, slot_at}
use Rattle.sort_order.proofs.CellLaws.{over_at}
use Rattle.move_kernels.specs.Kernels.{gathered_from, stretch}
use Rattle.move_kernels.proofs.Stretches.{filled_more, get_stretch, meant_over, or_second, same_ok, writes_over}
use Rattle.move_kernels.proofs.gathering.gather_into.Goals as goal

pub returns-in_err-position : goal.returns-in_err-position
returns-in_err-position g c =
    let source = g.S.SlotSource.cells c.args.source.now in
    let cells = g.P.SlotSource.cells c.args.pos.now in
    let n = length c.args.out.now in
    let part = stretch cells c.args.first n in
    let at = get_stretch cells c.args.first n c.loop-k.k _ (Err c.in_err-position.field-0.0) refl c.loop-k-test.true c.in_err-position.ensures.slot in
    writes_over c.from_residual-in_err-position.result (gathered_from source cells c.args.first n) c.loop-k.out c.from_residual-in_err-position.ensures.0
    (meant_over (has_over source || has_over part) (Err over) (Ok (gathered (slots_in source) (slots_in part))) (or_second (has_over source) (has_over part) (over_at part c.loop-k.k c.in_err-position.field-0.0 at)))

pub loop-k-preserved : goal.loop-k-preserved
loop-k-preserved g c =
    let source = g.S.SlotSource.cells c.args.source.now in
    let cells = g.P.SlotSource.cells c.args.pos.now in
    let n = length c.args.out.now in
    let part = stretch cells c.args.first n in
    let at = get_stretch cells c.args.first n c.loop-k.k _ (Ok c.in_ok-position.position) refl c.loop-k-test.true c.in_ok-position.ensures.slot in
    let slot = same_ok c.in_ok-out.field-0 (slot_at (slots_in source) c.in_ok-position.position) c.in_ok-out.ensures in
    filled_more (slot_at (slots_in source)) part c.loop-k.k c.loop-k.out _ c.in_ok-position.position c.in_ok-out.field-0
    (omega (arith, c.loop-k-test.true, c.loop-k.auto.out)) at slot refl c.loop-k.invariant
