use Rattle.std.proofs.Common.{◌≡◌, false, take, get_or}
use Rattle.control_vectors.specs.Slots.{has_over}
use Rattle.sort_order.specs.Keys.{no_key}
use Rattle.sort_order.proofs.ordering.check_key.Given as goal

abbrev pub invariant-loop-i : goal.invariant-loop-i
invariant-loop-i g l = has_over (take l.i (get_or (g.K.KeySource.keys l.keys) l.k no_key).cells) ≡ false
