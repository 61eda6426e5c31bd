-- The order of places by their keys.
use Rattle.std.proofs.Common.{ℕ, Bool, true, false, List, [], ◌∷◌, refl}
use Rattle.std.specs.Cmp.{IsTotalOrder, IsStrictWeakOrder}
use Rattle.std.specs.Cmp.Lexicographic.{options_total}
use Rattle.std.proofs.lemmas.Cmp.{int_cmp_total, on_total, then_total, back_total}
use Rattle.std.proofs.lemmas.List.Sorted.{ranks_by}
use Rattle.sort_order.specs.Keys.{SortKey}
use Rattle.sort_order.specs.Orders.{directed, slot_at, keys_cmp, comes_before}

pub directed_total : (b : Bool) → IsTotalOrder (directed b)
directed_total false = options_total int_cmp_total
directed_total true = back_total (options_total int_cmp_total)

pub keys_cmp_total : (keys : List SortKey) → IsTotalOrder (keys_cmp keys)
keys_cmp_total [] = record { antisymm = λ i j. refl; trans = λ i j k p q. absurd cc; congr = λ i j k p. refl }
keys_cmp_total (key ∷ keys) = then_total (on_total (slot_at key.slots) (directed_total key.descending)) (keys_cmp_total keys)

pub comes_before_order : (keys : List SortKey) → IsStrictWeakOrder (comes_before keys)
comes_before_order keys = ranks_by (keys_cmp_total keys) (λ (i : ℕ). i)
