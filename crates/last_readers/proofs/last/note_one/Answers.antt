use Rattle.std.proofs.Common.{◌∙◌, ap}
use Rattle.std.specs.Prelude.{is_some}
use Rattle.programs.specs.Indexes.{places_of}
use Rattle.last_readers.proofs.Noting.{notes_first}
use Rattle.last_readers.proofs.last.note_one.Goals as goal

pub returns : goal.returns
returns c =
    rw c.in-Some.is (notes_first (places_of c.args.places) (places_of c.in_ok-now.now) c.in-Some.a.now c.args.i (c.if-is_some.ensures ∙ ap is_some c.place.ensures) c.in_ok-now.ensures)
