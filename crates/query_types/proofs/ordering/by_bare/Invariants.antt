use Rattle.std.proofs.Common.{◌≡◌, ◌++◌, drop, option_to_list}
use Rattle.query_types.specs.Ordering.{places_named}
use Rattle.query_types.proofs.ordering.by_bare.Given as goal

abbrev pub invariant-loop-k : goal.invariant-loop-k
invariant-loop-k l = places_named l.c.name 0 l.names ≡ option_to_list l.only ++ places_named l.c.name l.k (drop l.k l.names)
