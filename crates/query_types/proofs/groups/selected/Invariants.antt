use Rattle.std.proofs.Common.{◌≡◌, [], drop}
use Rattle.query_types.specs.Grouping.{selected}
use Rattle.query_types.proofs.groups.selected.Given as goal

abbrev pub invariant-loop-x : goal.invariant-loop-x
invariant-loop-x l = selected l.defs l.tables [] l.items ≡ selected l.defs l.tables l.groups (drop l.x-index l.items)
