use Rattle.std.proofs.Common.{sym, arith}
use Rattle.struct_vectors.proofs.ColumnLaws.{length-marked_slots, length-control_slots}
use Rattle.struct_vectors.proofs.forms.Form.len.Goals as goal

pub returns-in-NarrowWithEmpties : goal.returns-in-NarrowWithEmpties
returns-in-NarrowWithEmpties c =
    let whole = rw c.in-NarrowWithEmpties.is at c.requires in
    rw (c.in-NarrowWithEmpties.is, length-marked_slots c.in-NarrowWithEmpties.numbers.items c.in-NarrowWithEmpties.field-1.items whole.1) (omega arith)

pub returns-in-WideWithEmpties : goal.returns-in-WideWithEmpties
returns-in-WideWithEmpties c =
    let whole = rw c.in-WideWithEmpties.is at c.requires in
    rw (c.in-WideWithEmpties.is, length-marked_slots c.in-WideWithEmpties.numbers.items c.in-WideWithEmpties.field-1.items whole.1) (omega arith)

pub returns-in-Symbolic : goal.returns-in-Symbolic
returns-in-Symbolic c = rw c.in-Symbolic.is (sym (length-control_slots c.in-Symbolic.field-0 c.in-Symbolic.n))
