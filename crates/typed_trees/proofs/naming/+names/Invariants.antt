use Rattle.std.proofs.Common.{◌≡◌, drop}
use Rattle.std.specs.List.{list_any}
use Rattle.typed_trees.specs.Names.{names}
use Rattle.typed_trees.proofs.naming.+names.Given as goal

abbrev pub invariant-any_names-loop-e : goal.invariant-any_names-loop-e
invariant-any_names-loop-e l = list_any (names l.wanted) l.all ≡ list_any (names l.wanted) (drop l.e-index l.all)
