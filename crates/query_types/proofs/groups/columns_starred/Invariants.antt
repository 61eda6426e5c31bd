use Rattle.std.proofs.Common.{◌≡◌, ◌++◌, drop}
use Rattle.query_types.specs.Grouping.{columns_starred}
use Rattle.query_types.proofs.groups.columns_starred.Given as goal

abbrev pub invariant-loop-f : goal.invariant-loop-f
invariant-loop-f l = columns_starred l.all ≡ l.columns ++ columns_starred (drop l.f-index l.all)
