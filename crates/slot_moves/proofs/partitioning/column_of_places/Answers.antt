use Rattle.std.proofs.Common.{◌≡◌, ◌≤◌, ◌∙◌, subst, ap, arith, length, List}
use Rattle.std.specs.Prelude.{IfOk}
use Rattle.control_vectors.specs.Slots.{Slot}
use Rattle.struct_vectors.specs.Columns.{ColumnValue}
use Rattle.slot_moves.proofs.MoveLaws.{length_partitioned, places_are, never_over}
use Rattle.slot_moves.proofs.partitioning.column_of_places.Goals as goal

pub slots_column-requires : goal.slots_column-requires
slots_column-requires c =
    let places = c.as_slice.ensures.value ∙ places_are c.args.pivots.now c.args.keys.now.slots c.in-Ok.places.items c.in-Ok.ensures in
    omega (arith, ap (λ (l : List Slot). length l) places, length_partitioned c.args.pivots.now c.args.keys.now.slots, c.len-is_short.ensures.bounded)

pub unreachable-requires : goal.unreachable-requires
unreachable-requires c = never_over c.args.pivots.now c.args.keys.now.slots (rw c.in-Err-Over.field-0-is at c.in-Err-Over.ensures)

pub returns-in-Ok : goal.returns-in-Ok
returns-in-Ok c =
    let places = c.as_slice.ensures.value ∙ places_are c.args.pivots.now c.args.keys.now.slots c.in-Ok.places.items c.in-Ok.ensures in
    subst (λ (l : List Slot). IfOk c.slots_column.result (λ (v : ColumnValue). v.slots ≡ l)) places c.slots_column.ensures
