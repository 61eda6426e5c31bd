use Rattle.std.proofs.Common.{◌≡◌, ◌++◌, drop}
use Rattle.query_types.specs.Grouping.{every_column}
use Rattle.query_types.proofs.stars.every_column.Given as goal

abbrev pub invariant-loop-s : goal.invariant-loop-s
invariant-loop-s l = every_column l.defs 0 l.tables ≡ l.all ++ every_column l.defs l.s (drop l.s l.tables)
