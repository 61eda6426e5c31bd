use Rattle.std.proofs.Common.{◌≡◌, drop}
use Rattle.query_types.specs.Names.{in_table}
use Rattle.query_types.proofs.names.qualified.Given as goal

abbrev pub invariant-loop-s : goal.invariant-loop-s
invariant-loop-s l = in_table l.defs l.c l.table 0 l.tables ≡ in_table l.defs l.c l.table l.s (drop l.s l.tables)
