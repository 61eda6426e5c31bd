use Rattle.std.proofs.Common.{List, subst, Result}
use Rattle.control_vectors.specs.Slots.{Slot}
use Rattle.control_vectors.specs.declared.Over.{Over}
use Rattle.control_vectors.proofs.SlotLaws.{all_slots-cells_of}
use Rattle.struct_vectors.specs.Columns.{ColumnValue}
use Rattle.slot_columns.specs.Stops.{Exact}
use Rattle.slot_folds.specs.Folds.{selected}
use Rattle.slot_folds.proofs.folding.select_runs.Goals as goal

pub returns : goal.returns
returns c =
    subst (λ (meant : Result (List Slot) Over). Exact (λ (v : ColumnValue). v.slots) c.by_runs.result meant) (all_slots-cells_of (selected c.args.marks.now c.args.values.now.slots)) c.by_runs.ensures
