use Rattle.std.proofs.Common.{◌≡◌, ◌++◌, replicate, None}
use Rattle.slot_folds.proofs.pushing.pad.Given as goal

abbrev pub invariant-loop-k : goal.invariant-loop-k
invariant-loop-k l = record {
  room : l.builder.room ≡ l.initial.builder.room;
  slots : l.builder.slots ≡ l.initial.builder.slots ++ replicate l.k None;
}
