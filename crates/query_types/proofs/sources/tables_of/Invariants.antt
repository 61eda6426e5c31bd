use Rattle.std.proofs.Common.{◌≡◌, ◌≤◌, drop, length}
use Rattle.query_types.specs.Sources.{tables_of, with_joins}
use Rattle.query_types.proofs.sources.tables_of.Given as goal

abbrev pub invariant-loop-j : goal.invariant-loop-j
invariant-loop-j l = record { so_far : tables_of l.defs l.s ≡ with_joins l.defs l.tables (drop l.j-index l.s.joins); few : length l.tables.called ≤ 8 }
