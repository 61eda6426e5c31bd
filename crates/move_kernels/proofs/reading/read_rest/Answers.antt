use Rattle.std.proofs.Common.{◌≡◌, ◌+◌, ◌-◌, drop, take, ap, ◌∙◌, arith, Ok, Err}
use Rattle.control_vectors.specs.Slots.{has_over}
use Rattle.sort_order.proofs.CellLaws.{clear_more, over_at}
use Rattle.move_kernels.proofs.Stretches.{clear_over, get_drop}
use Rattle.move_kernels.proofs.reading.read_rest.Goals as goal

pub returns-in_err-slot : goal.returns-in_err-slot
returns-in_err-slot g c =
    let cells = g.S.SlotSource.cells c.args.source.now in
    let rest = drop c.args.from cells in
    clear_over c.from_residual.result (has_over rest) c.from_residual.ensures.0
    (over_at rest (c.loop-i.i - c.args.from) c.in_err-slot.field-0.0 (get_drop cells c.args.from c.loop-i.i (Err c.in_err-slot.field-0.0) c.loop-i.invariant.from c.in_err-slot.ensures.slot))

pub loop-i-preserved : goal.loop-i-preserved
loop-i-preserved g c =
    let cells = g.S.SlotSource.cells c.args.source.now in
    let rest = drop c.args.from cells in
    let next : c.loop-i.i + 1 - c.args.from ≡ c.loop-i.i - c.args.from + 1 = omega (arith, c.loop-i.invariant.from) in
    record {
      from = omega (arith, c.loop-i.invariant.from);
      clear = ap (λ n. has_over (take n rest)) next ∙ clear_more rest (c.loop-i.i - c.args.from) c.in_ok-slot.field-0 c.loop-i.invariant.clear (get_drop cells c.args.from c.loop-i.i (Ok c.in_ok-slot.field-0) c.loop-i.invariant.from c.in_ok-slot.ensures.slot);
    }
