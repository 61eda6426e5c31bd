use Rattle.std.proofs.Common.{◌≡◌, ℕ, ℤ, pos, ap, ◌∙◌, arith, Option, Some, slice_set, to_z, of_z, w64}
use Rattle.std.proofs.lemmas.Int.{ints}
use Rattle.struct_vectors.specs.Columns.{marked_slots}
use Rattle.slot_moves.specs.Moves.{noted}
use Rattle.slot_moves.proofs.MoveLaws.{marked_set}
use Rattle.slot_moves.proofs.scattering.note.Goals as goal

pub returns-in-Some : goal.returns-in-Some
returns-in-Some c =
    let number : to_z w64 (of_z w64 c.from.result) ≡ pos c.args.j = omega (arith, ints, c.from.ensures) in
    marked_set c.args.numbers.now c.args.marks.now c.in-Some.i _ c.requires.lengths
    ∙ ap (λ (x : ℤ). slice_set (marked_slots c.args.numbers.now c.args.marks.now) c.in-Some.i (Some x)) number
    ∙ ap (λ (o : Option ℕ). noted o c.args.j (marked_slots c.args.numbers.now c.args.marks.now)) c.in-Some.ensures
