use Rattle.std.proofs.Common.{◌≡◌, false, take}
use Rattle.std.specs.List.{list_any}
use Rattle.control_vectors.specs.Slots.{has_over}
use Rattle.sort_order.proofs.ordering.check_keys.Given as goal

abbrev pub invariant-loop-k : goal.invariant-loop-k
invariant-loop-k g l = list_any (λ key. has_over key.cells) (take l.k (g.K.KeySource.keys l.keys)) ≡ false
