-- The laws of orders: an order is the stable sort of the marked places; with worked examples.
use Rattle.std.specs.Prelude.{◌≡◌, ℕ, pos, Bool, true, false, List, [], ◌∷◌, Some, None}
use Rattle.std.specs.List.Sorted.{IsSortedBy, IsStableBy}
use Rattle.control_vectors.specs.Slots.{Slot}
use Rattle.sort_order.specs.Keys.{SortKey}
use Rattle.sort_order.specs.Orders.{comes_before, sorted_by, ordered}

pub record OrderLaws : Type 0 where
  -- no place comes before an earlier one
  pub ascends : (keys : List SortKey) (places : List ℕ) → IsSortedBy (comes_before keys) (sorted_by (comes_before keys) places)
  -- the same places, and those that no key tells apart in their old order
  pub stable : (keys : List SortKey) (places : List ℕ) → IsStableBy (comes_before keys) places (sorted_by (comes_before keys) places)
  -- nothing else is so
  pub only : (keys : List SortKey) (places sorted : List ℕ) → IsSortedBy (comes_before keys) sorted → IsStableBy (comes_before keys) places sorted → sorted ≡ sorted_by (comes_before keys) places

-- 3, 1, 3, empty, 2 as a key, and marks for all places but the fifth
abbrev pub five_slots : List Slot
five_slots = Some (pos 3) ∷ Some (pos 1) ∷ Some (pos 3) ∷ None ∷ Some (pos 2) ∷ []

abbrev pub four_marks : List Slot
four_marks = Some (pos 1) ∷ Some (pos 0) ∷ Some (pos 1) ∷ Some (pos 7) ∷ None ∷ []

abbrev pub key_by : Bool → List SortKey
key_by descending = record { descending = descending; slots = five_slots } ∷ []

abbrev pub five_slots_marked : List Slot
five_slots_marked = Some (pos 1) ∷ Some (pos 1) ∷ Some (pos 1) ∷ Some (pos 1) ∷ Some (pos 1) ∷ []

pub record OrderExamples : Type 0 where
  -- the empty slot is lowest, and the two places of 3 stay in their order
  pub ascending : ordered five_slots_marked (key_by false) ≡ Some (pos 3) ∷ Some (pos 1) ∷ Some (pos 4) ∷ Some (pos 0) ∷ Some (pos 2) ∷ []
  -- turned round, they still do
  pub descending : ordered five_slots_marked (key_by true) ≡ Some (pos 0) ∷ Some (pos 2) ∷ Some (pos 4) ∷ Some (pos 1) ∷ Some (pos 3) ∷ []
  -- a place without a mark is left out
  pub marked : ordered four_marks (key_by false) ≡ Some (pos 3) ∷ Some (pos 1) ∷ Some (pos 0) ∷ Some (pos 2) ∷ None ∷ []
