use Rattle.std.proofs.Common.{◌≡◌, subst, sym, rules, List, get_or, None}
use Rattle.std.specs.Prelude.{IfOk}
use Rattle.control_vectors.specs.Slots.{Slot}
use Rattle.struct_vectors.specs.Columns.{ColumnValue}
use Rattle.slot_moves.specs.Moves.{slot_at}
use Rattle.slot_moves.proofs.MoveLaws.{gathered_by_place}
use Rattle.slot_moves.proofs.gathering.gather_read.Goals as goal

pub returns : goal.returns
returns g c = λ xs places reads long reads_places many.
    subst (λ (l : List Slot). IfOk c.slots_of.result (λ (v : ColumnValue). v.slots ≡ l)) (gathered_by_place xs places c.args.n (sym many))
    (c.slots_of.ensures (λ i. slot_at xs (get_or places i None)) (λ i r h e. search rules))
