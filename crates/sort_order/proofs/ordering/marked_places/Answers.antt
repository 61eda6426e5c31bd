use Rattle.std.proofs.Common.{◌≡◌, length, ap, ◌∙◌, arith}
use Rattle.control_vectors.specs.Slots.{slots_in}
use Rattle.sort_order.proofs.CellLaws.{over_at, slot_after, clear_more, clear_all, length_slots, marked_below, marked_more}
use Rattle.sort_order.proofs.ordering.marked_places.Goals as goal

pub returns-in-Err-slot : goal.returns-in-Err-slot
returns-in-Err-slot g c = over_at (g.S.SlotSource.cells c.args.mark.now) c.loop-i.i c.in-Err-slot.field-0 c.in-Err-slot.ensures.slot

pub loop-i-preserved : goal.loop-i-preserved
loop-i-preserved g c =
    let cells = g.S.SlotSource.cells c.args.mark.now in
    record {
      clear = clear_more cells c.loop-i.i c.in-Ok-slot.s c.loop-i.invariant.clear c.in-Ok-slot.ensures.slot;
      places = marked_more (slots_in cells) c.loop-i.i c.in-Ok-slot.s c.loop-i.places.items c.push_marked.new.places.items (slot_after cells c.loop-i.i c.in-Ok-slot.s c.loop-i.invariant.clear c.in-Ok-slot.ensures.slot) c.in-Ok-push_marked.ensures c.loop-i.invariant.places;
    }

pub returns : goal.returns
returns g c =
    let cells = g.S.SlotSource.cells c.args.mark.now in
    let clear = clear_all cells c.loop-i.i (omega (arith, c.len-n.ensures.len, c.loop-i-test.false)) c.loop-i.invariant.clear in
    let count : c.loop-i.i ≡ length (slots_in cells) = omega (arith, length_slots cells clear, c.len-n.ensures.len, c.loop-i-test.false, c.loop-i.auto.i-end) in
    (clear, c.loop-i.invariant.places ∙ ap (marked_below (slots_in cells)) count)
