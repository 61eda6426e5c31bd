use Rattle.std.proofs.Common.{◌*◌, ap, ◌∙◌, refl, pos}
use Rattle.control_vectors.specs.Controls.{Control, control_of, control_list}
use Rattle.struct_vectors.specs.Columns.{ColumnValue, some_slots}
use Rattle.slot_moves.proofs.CrossLaws.{left_is}
use Rattle.slot_moves.proofs.cross.left_column.Goals as goal

pub returns : goal.returns
returns c =
    ap (λ (v : ColumnValue). v.slots) c.control.ensures
    ∙ ap (λ (v : Control). some_slots (control_list v (c.args.n * c.args.m))) (c.counter.ensures ∙ ap (λ d. control_of (pos 0) 1 0 d) (c.from.ensures ∙ c.max.ensures))
    ∙ left_is c.args.n c.args.m (c.args.n * c.args.m) refl
