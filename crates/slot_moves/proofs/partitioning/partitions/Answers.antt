use Rattle.std.proofs.Common.{◌≡◌, ℤ, subst, ap, ◌∙◌, List}
use Rattle.std.specs.Prelude.{IfOk}
use Rattle.control_vectors.specs.Slots.{Slot, numbers}
use Rattle.struct_vectors.specs.Columns.{ColumnValue}
use Rattle.sort_order.specs.Buckets.{partitioned}
use Rattle.slot_moves.proofs.MoveLaws.{partitioned_same}
use Rattle.slot_moves.proofs.partitioning.partitions.Goals as goal

pub returns : goal.returns
returns c =
    let e = ap (λ (l : List ℤ). partitioned l c.args.keys.now.slots) c.as_slice.ensures.value ∙ partitioned_same (numbers c.args.pivots.now.slots) c.in_ok-sorted.sorted.items c.args.keys.now.slots c.in_ok-sorted.ensures.same in
    subst (λ (l : List Slot). IfOk c.column_of_places.result (λ (v : ColumnValue). v.slots ≡ l)) e c.column_of_places.ensures
