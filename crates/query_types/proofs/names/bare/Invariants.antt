use Rattle.std.proofs.Common.{◌≡◌, ◌++◌, drop, option_to_list}
use Rattle.query_types.specs.Names.{holders}
use Rattle.query_types.proofs.names.bare.Given as goal

abbrev pub invariant-loop-s : goal.invariant-loop-s
invariant-loop-s l = holders l.defs l.name 0 l.tables ≡ option_to_list l.only ++ holders l.defs l.name l.s (drop l.s l.tables)
