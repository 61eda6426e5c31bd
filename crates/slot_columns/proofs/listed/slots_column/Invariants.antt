use Rattle.std.proofs.Common.{◌≡◌, length, take}
use Rattle.slot_columns.proofs.listed.slots_column.Given as goal

abbrev pub invariant-loop-s : goal.invariant-loop-s
invariant-loop-s l = record {
  room : l.builder.room ≡ length l.slots;
  so_far : l.builder.slots ≡ take l.s-index l.slots;
}
