use Rattle.std.proofs.Common.{◌≡◌}
use Rattle.std.specs.Prelude.{slice_range}
use Rattle.control_vectors.specs.Folds.{fold_slots}
use Rattle.slot_folds.proofs.StretchLaws.{ok}
use Rattle.slot_folds.proofs.stretches.best_of_slots.Given as goal

abbrev pub invariant-loop-i : goal.invariant-loop-i
invariant-loop-i l = ok l.best ≡ fold_slots l.kind (slice_range l.values.slots l.from l.i)
