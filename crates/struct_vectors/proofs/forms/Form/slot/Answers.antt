use Rattle.struct_vectors.proofs.ColumnLaws.{length-marked_slots, length-control_slots}
use Rattle.struct_vectors.proofs.forms.Form.slot.Goals as goal

pub marked_narrow_slot-requires-clause-within : goal.marked_narrow_slot-requires-clause-within
marked_narrow_slot-requires-clause-within c =
    let whole = rw c.in-NarrowWithEmpties.is at c.requires.whole in
    rw (c.in-NarrowWithEmpties.is, length-marked_slots c.in-NarrowWithEmpties.numbers.items c.in-NarrowWithEmpties.marks.items whole.1) at c.requires.within

pub marked_wide_slot-requires-clause-within : goal.marked_wide_slot-requires-clause-within
marked_wide_slot-requires-clause-within c =
    let whole = rw c.in-WideWithEmpties.is at c.requires.whole in
    rw (c.in-WideWithEmpties.is, length-marked_slots c.in-WideWithEmpties.numbers.items c.in-WideWithEmpties.marks.items whole.1) at c.requires.within

pub control_slot-requires : goal.control_slot-requires
control_slot-requires c =
    rw (c.in-Symbolic.is, length-control_slots c.in-Symbolic.v c.in-Symbolic.n) at c.requires.within
