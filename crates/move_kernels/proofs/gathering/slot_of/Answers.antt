use Rattle.std.proofs.Common.{ap, ◌∙◌, Ok}
use Rattle.control_vectors.specs.Slots.{Slot}
use Rattle.slot_moves.specs.Moves.{place_in}
use Rattle.move_kernels.proofs.Positions.{slot_absent, slot_found}
use Rattle.move_kernels.proofs.gathering.slot_of.Goals as goal

pub returns-in-Some : goal.returns-in-Some
returns-in-Some g c =
    let cells = g.S.SlotSource.cells c.args.source.now in
    slot_found cells c.args.position c.in-Some.i c.slot.result c.requires (c.in-Some.ensures ∙ ap (λ n. place_in n c.args.position) c.len.ensures.len) c.slot.ensures.slot

pub returns-in-None : goal.returns-in-None
returns-in-None g c =
    let cells = g.S.SlotSource.cells c.args.source.now in
    ap (λ (s : Slot). Ok s) (slot_absent cells c.args.position (c.in-None.ensures ∙ ap (λ n. place_in n c.args.position) c.len.ensures.len))
