use Rattle.std.proofs.Common.{◌≡◌, take, fold}
use Rattle.sql_types.specs.Findings.{noted}
use Rattle.sql_types.specs.Catalog.{with_earlier, is_later_table, table_twice}
use Rattle.sql_types.proofs.rules.tables_twice.Given as goal

abbrev pub invariant-loop-i : goal.invariant-loop-i
invariant-loop-i l = l.best ≡ fold (noted is_later_table table_twice) l.fn.first (take l.i (with_earlier l.defs))
