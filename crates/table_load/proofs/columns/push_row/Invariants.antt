use Rattle.std.proofs.Common.{◌≡◌, length, take}
use Rattle.table_load.specs.HeldColumns.{with_cells}
use Rattle.table_load.proofs.columns.push_row.Given as goal

abbrev pub invariant-loop-i : goal.invariant-loop-i
invariant-loop-i l = record {
  so_far : l.columns.items ≡ with_cells l.fn.columns.items (take l.i l.cells);
  as_many : length l.columns.items ≡ length l.fn.columns.items;
}
