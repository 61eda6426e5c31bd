use Rattle.std.proofs.Common.{◌≡◌, [], drop}
use Rattle.query_types.specs.Ordering.{keys}
use Rattle.query_types.specs.Names.{seen}
use Rattle.query_types.proofs.ordering.keys.Given as goal

abbrev pub invariant-loop-k : goal.invariant-loop-k
invariant-loop-k l = keys (seen l.scope) l.names [] l.order ≡ keys (seen l.scope) l.names l.keys (drop l.k-index l.order)
