use Rattle.std.proofs.Common.{ap, ◌∙◌, None, length}
use Rattle.std.proofs.lemmas.Option.{get_or_from_slice_get}
use Rattle.struct_vectors.specs.Columns.{marked_slots}
use Rattle.slot_moves.specs.Moves.{noted, place_in}
use Rattle.slot_moves.proofs.MoveLaws.{written_start, written_more}
use Rattle.slot_moves.proofs.scattering.write_places.Goals as goal

pub loop-j-init : goal.loop-j-init
loop-j-init c = written_start c.args.positions.now.slots c.args.numbers.now c.args.marks.now c.requires.blank

pub loop-j-preserved : goal.loop-j-preserved
loop-j-preserved c =
    written_more c.args.positions.now.slots (length c.args.numbers.now) c.loop-j.j c.get.result (marked_slots c.loop-j.numbers c.loop-j.marks) (marked_slots c.note.new.numbers c.note.new.marks)
    (get_or_from_slice_get c.args.positions.now.slots c.loop-j.j c.get.result None c.get.ensures.slot)
    (c.note.ensures ∙ ap (λ n. noted (place_in n c.get.result) c.loop-j.j (marked_slots c.loop-j.numbers c.loop-j.marks)) c.loop-j.auto.numbers) c.loop-j.invariant
