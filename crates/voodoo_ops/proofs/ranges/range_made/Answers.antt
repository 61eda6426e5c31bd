use Rattle.std.proofs.Common.{List, length, ap, sym, ◌∙◌, Ok}
use Rattle.std.specs.Prelude.{Result}
use Rattle.control_vectors.specs.declared.Over.{Over}
use Rattle.control_vectors.specs.Slots.{Slot}
use Rattle.control_vectors.specs.Controls.{control_list}
use Rattle.struct_vectors.specs.Columns.{ColumnValue, some_slots}
use Rattle.struct_vectors.proofs.ColumnLaws.{length-control_slots}
use Rattle.programs.specs.Vectors.{Vector}
use Rattle.voodoo_ops.proofs.Seen.{column_long}
use Rattle.voodoo_ops.proofs.ranges.range_made.Goals as goal

pub returns : goal.returns
returns c =
    let slots = ap (λ (d : ColumnValue). d.slots) c.control.ensures in
    ap (λ (v : Vector). let r : Result Vector Over = Ok v in r)
    (sym (rw (← c.size_in-n.ensures) (column_long c.args.out.now c.size_in-n.result _ c.control.result.slots (some_slots (control_list c.args.control c.size_in-n.result)) _ c.in_ok-named.ensures slots (ap (λ (l : List Slot). length l) slots ∙ length-control_slots c.args.control c.size_in-n.result))))
