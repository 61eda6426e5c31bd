use Rattle.std.proofs.Common.{ap, ◌∙◌}
use Rattle.slot_moves.specs.Moves.{slot_at}
use Rattle.slot_moves.proofs.gathering.slot_for.Goals as goal

pub returns : goal.returns
returns g c = λ xs places reads long reads_places.
    c.slot_of.ensures xs reads long ∙ ap (slot_at xs) (c.slot.ensures ∙ reads_places c.args.i)
