use Rattle.std.proofs.Common.{ap, ◌∙◌, Some, ℤ, arith}
use Rattle.std.proofs.lemmas.Int.{ints}
use Rattle.struct_vectors.proofs.ColumnLaws.{slice_get-control_slots}
use Rattle.struct_vectors.proofs.forms.control_slot.Goals as goal

pub returns : goal.returns
returns c =
    slice_get-control_slots c.args.v c.args.n c.args.i c.requires ∙ ap (λ (x : ℤ). Some (Some x)) (omega (arith, ints))
