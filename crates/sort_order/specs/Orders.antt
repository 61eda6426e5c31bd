-- Order: the places whose mark is nonempty, sorted stably by the keys, then empty slots (as ORDER BY of SQL-92, ISO/IEC 9075:1992, 13.1, nulls lowest).
use Rattle.std.specs.Prelude.{ℕ, pos, ◌-◌, Bool, true, false, ◌||◌, List, [], ◌∷◌, ◌++◌, length, map, replicate, filter, is_some, slice_index_or, if◌then◌else◌, Some, None, Result, Ok, Err}
use Rattle.std.specs.List.{range_with_len, list_any}
use Rattle.std.specs.Option.{option_cmp}
use Rattle.std.specs.Ordering.{is_lt, int_cmp, ordering_then}
use Rattle.std.specs.declared.cmp.Ordering.{Ordering}
use Rattle.std.specs.declared.cmp.Ordering.TheVariants.{Equal}
use Rattle.control_vectors.specs.Slots.{Slot, Cell, over, has_over, slots_in}
use Rattle.control_vectors.specs.declared.Over.{Over}
use Rattle.sort_order.specs.Keys.{KeyCells, SortKey, key_of}

-- empty slots are lowest; a descending key turns its order round
abbrev pub directed : Bool → Slot → Slot → Ordering
directed false x y = option_cmp int_cmp x y
directed true x y = option_cmp int_cmp y x

-- the slot at a place, empty past the end
abbrev pub slot_at : List Slot → ℕ → Slot
slot_at slots i = slice_index_or slots i None

-- two places by their keys: the first key that tells them apart decides
abbrev pub keys_cmp : List SortKey → ℕ → ℕ → Ordering
keys_cmp [] i j = Equal
keys_cmp (key ∷ keys) i j = ordering_then (directed key.descending (slot_at key.slots i) (slot_at key.slots j)) (keys_cmp keys i j)

abbrev pub comes_before : List SortKey → ℕ → ℕ → Bool
comes_before keys i j = is_lt (keys_cmp keys i j)

-- a stable sort: each element is inserted before the first that does not come before it
abbrev pub inserted : {X : Type 0} → (X → X → Bool) → X → List X → List X
inserted before x [] = x ∷ []
inserted before x (y ∷ ys) = if before y x then y ∷ inserted before x ys else x ∷ y ∷ ys

abbrev pub sorted_by : {X : Type 0} → (X → X → Bool) → List X → List X
sorted_by before [] = []
sorted_by before (x ∷ xs) = inserted before x (sorted_by before xs)

-- the places whose slot is not empty
abbrev pub marked : List Slot → List ℕ
marked mark = filter (λ i. is_some (slot_at mark i)) (range_with_len 0 (length mark))

-- a place, if its slot is not empty
abbrev pub one_place : Slot → ℕ → List ℕ
one_place s i = if is_some s then i ∷ [] else []

-- places as slots, followed by empty ones
abbrev pub padded : ℕ → List ℕ → List Slot
padded n places = map (λ i. Some (pos i)) places ++ replicate (n - length places) None

abbrev pub ordered : List Slot → List SortKey → List Slot
ordered mark keys = padded (length mark) (sorted_by (comes_before keys) (marked mark))

-- the same over cells: Over where one of them is
abbrev pub any_over : List Cell → List KeyCells → Bool
any_over mark keys = has_over mark || list_any (λ key. has_over key.cells) keys

abbrev pub ordered_cells : List Cell → List KeyCells → Result (List Slot) Over
ordered_cells mark keys = if any_over mark keys then Err over else Ok (ordered (slots_in mark) (map key_of keys))
