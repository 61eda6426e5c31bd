use Rattle.std.proofs.Common.{◌≡◌}
use Rattle.table_load.specs.HeldColumns.{empty_columns}
use Rattle.table_load.proofs.columns.empty_columns.Given as goal

abbrev pub invariant-loop : goal.invariant-loop
invariant-loop l = l.columns.items ≡ empty_columns l.counter
