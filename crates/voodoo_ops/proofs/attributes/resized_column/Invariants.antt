use Rattle.std.proofs.Common.{◌≡◌}
use Rattle.voodoo_ops.specs.Attributes.{resized}
use Rattle.voodoo_ops.proofs.attributes.resized_column.Given as goal

abbrev pub invariant-loop-i : goal.invariant-loop-i
invariant-loop-i l = record {
  room : l.builder.room ≡ l.n;
  slots : l.builder.slots ≡ resized l.i l.column.slots;
}
