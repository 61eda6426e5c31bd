use Rattle.std.proofs.Common.{◌≡◌, [], drop}
use Rattle.query_types.specs.Grouping.{grouped_by}
use Rattle.query_types.proofs.groups.grouped_by.Given as goal

abbrev pub invariant-loop-c : goal.invariant-loop-c
invariant-loop-c l = grouped_by l.defs l.tables [] l.columns ≡ grouped_by l.defs l.tables l.groups (drop l.c-index l.columns)
