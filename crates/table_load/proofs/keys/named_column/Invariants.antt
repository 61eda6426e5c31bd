use Rattle.std.proofs.Common.{◌≡◌, drop}
use Rattle.std.specs.List.{position_from}
use Rattle.sql_types.specs.Catalog.{is_column_named}
use Rattle.table_load.proofs.keys.named_column.Given as goal

abbrev pub invariant-loop-i : goal.invariant-loop-i
invariant-loop-i l = position_from (is_column_named l.name) 0 l.columns ≡ position_from (is_column_named l.name) l.i (drop l.i l.columns)
