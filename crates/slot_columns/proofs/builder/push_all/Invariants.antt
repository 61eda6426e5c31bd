use Rattle.std.proofs.Common.{◌≡◌, ◌++◌, take}
use Rattle.slot_columns.proofs.builder.push_all.Given as goal

abbrev pub invariant-loop-i : goal.invariant-loop-i
invariant-loop-i l = record {
  room : l.maker.room ≡ l.initial.maker.room;
  wide : l.maker.wide ≡ l.initial.maker.wide;
  so_far : l.maker.slots ≡ l.initial.maker.slots ++ take l.i l.column.slots;
}
