use Rattle.std.proofs.Common.{sym, refl, ap, List, get_or, None}
use Rattle.control_vectors.specs.Slots.{Slot}
use Rattle.slot_moves.proofs.gathering.gather_from.Goals as goal

pub returns-in-Some : goal.returns-in-Some
returns-in-Some g c = λ xs reads long.
    c.gather_read.ensures xs c.args.positions.now.slots reads long (λ i. ap (λ (l : List Slot). get_or l i None) (sym c.in-Some.ensures.1)) (sym c.len-n.ensures.len)

pub returns-in-Some-narrow_slice : goal.returns-in-Some-narrow_slice
returns-in-Some-narrow_slice g c = λ xs reads long.
    c.gather_read-in-Some-narrow_slice.ensures xs c.args.positions.now.slots reads long (λ i. ap (λ (l : List Slot). get_or l i None) (sym c.in-Some-narrow_slice.ensures.1)) (sym c.len-n.ensures.len)

pub returns-in-None : goal.returns-in-None
returns-in-None g c = λ xs reads long. c.gather_read-in-None.ensures xs c.args.positions.now.slots reads long (λ i. refl) (sym c.len-n.ensures.len)
