use Rattle.std.proofs.Common.{◌≡◌, drop}
use Rattle.typed_trees.specs.Scales.{greatest}
use Rattle.query_types.specs.Expressions.{scales}
use Rattle.query_types.proofs.scales.greatest.Given as goal

abbrev pub invariant-loop-t : goal.invariant-loop-t
invariant-loop-t l = greatest l.first (scales l.others) ≡ greatest l.most (scales (drop l.t-index l.others))
