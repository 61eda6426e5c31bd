use Rattle.std.proofs.Common.{◌≡◌, map, drop}
use Rattle.sort_order.specs.Keys.{key_of}
use Rattle.sort_order.specs.Orders.{keys_cmp}
use Rattle.sort_order.proofs.ordering.compare_from.Given as goal

abbrev pub invariant-loop-k : goal.invariant-loop-k
invariant-loop-k g l = keys_cmp (drop l.k (map key_of (g.K.KeySource.keys l.keys))) l.i l.j ≡ keys_cmp (drop l.from (map key_of (g.K.KeySource.keys l.keys))) l.i l.j
