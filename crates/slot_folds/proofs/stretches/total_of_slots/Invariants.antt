use Rattle.std.specs.Prelude.{slice_range}
use Rattle.slot_folds.proofs.StretchLaws.{Summed}
use Rattle.slot_folds.proofs.stretches.total_of_slots.Given as goal

abbrev pub invariant-loop-i : goal.invariant-loop-i
invariant-loop-i l = Summed (slice_range l.values.slots l.from l.i) l.total
