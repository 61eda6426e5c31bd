-- Places beside what their first key has there.
use Rattle.std.specs.Prelude.{◌≡◌, ℕ, Bool, List, [], ◌∷◌, map, if◌then◌else◌, Some, None}
use Rattle.std.specs.Ordering.{ordering_then}
use Rattle.std.specs.declared.cmp.Ordering.{Ordering}
use Rattle.control_vectors.specs.Slots.{Slot}
use Rattle.sort_order.specs.declared.keyed.Keyed.{Keyed}
use Rattle.sort_order.specs.Keys.{SortKey}
use Rattle.sort_order.specs.Orders.{directed, keys_cmp, slot_at}

abbrev pub first_slot : Keyed → Slot
first_slot p = if p.is_some then Some p.number else None

-- by what the first key has there, then by the other keys
abbrev pub keyed_cmp : Bool → List SortKey → Keyed → Keyed → Ordering
keyed_cmp descending others p q = ordering_then (directed descending (first_slot p) (first_slot q)) (keys_cmp others p.place q.place)

abbrev pub places_of : List Keyed → List ℕ
places_of keyed = map (λ p. p.place) keyed

-- each has what these slots have at its place
abbrev pub HaveFirst : List Slot → List Keyed → Type 0
HaveFirst slots [] = Unit {0}
HaveFirst slots (p ∷ keyed) = (first_slot p ≡ slot_at slots p.place) × HaveFirst slots keyed
