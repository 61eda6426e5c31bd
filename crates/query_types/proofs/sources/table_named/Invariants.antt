use Rattle.std.proofs.Common.{◌≡◌, drop}
use Rattle.std.specs.List.{position_from}
use Rattle.sql_types.specs.Catalog.{is_table_named}
use Rattle.query_types.proofs.sources.table_named.Given as goal

abbrev pub invariant-loop-i : goal.invariant-loop-i
invariant-loop-i l = position_from (is_table_named l.name) 0 l.defs ≡ position_from (is_table_named l.name) l.i (drop l.i l.defs)
