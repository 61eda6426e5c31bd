-- Operators over lists of slots, where these are columns of rows: rows are selected and sorted.
-- After Voodoo, PVLDB 9(14), 2016, table 2.
use Rattle.std.specs.Prelude.{◌≡◌, Bool, List, [], ◌∷◌, length, map, filter, Option, Some, None}
use Rattle.std.specs.Ordering.{is_lt, ordering_then}
use Rattle.std.specs.declared.cmp.Ordering.{Ordering}
use Rattle.std.specs.declared.cmp.Ordering.TheVariants.{Equal}
use Rattle.control_vectors.specs.Slots.{Slot, Cell}
use Rattle.control_vectors.specs.declared.PairKind.{PairKind}
use Rattle.slot_folds.specs.Folds.{holds, selected}
use Rattle.slot_moves.specs.Moves.{gathered}
use Rattle.slot_wise.specs.Pairs.{pair_slot}
use Rattle.sort_order.specs.Keys.{SortKey}
use Rattle.sort_order.specs.Orders.{directed, sorted_by, ordered}
use Rattle.held_rows.specs.Held.{Held, present, column, one, packed}

-- ---- selection: in whatever runs, the rows for which a truth holds are gathered

pub record IsKept {A : Type 0} (c : A → Slot) (held : Held A) (places : List Slot) (kept : Held A) : Type 0 where
  pub len : length kept ≡ length held
  pub rows : present kept ≡ filter (λ a. holds (c a)) (present held)
  pub moves : (f : A → Slot) → gathered (column f held) places ≡ column f kept

pub record Selection {A : Type 0} (c : A → Slot) (held : Held A) (places : List Slot) : Type 0 where
  pub kept : Held A
  pub is : IsKept c held places kept

abbrev pub SelectLaw : Type 0 → Type 0
SelectLaw A = (c : A → Slot) (held : Held A) (marks : List Bool) → length marks ≡ length held → Selection c held (selected marks (column c held))

-- ---- order: the rows sorted, stably, by keys that are asked of them

abbrev pub Key : Type 0 → Type 0
Key A = Bool × (A → Slot)

abbrev pub rows_cmp : {A : Type 0} → List (Key A) → A → A → Ordering
rows_cmp [] a b = Equal
rows_cmp (k ∷ ks) a b = ordering_then (directed k.0 (k.1 a) (k.1 b)) (rows_cmp ks a b)

abbrev pub row_before : {A : Type 0} → List (Key A) → A → A → Bool
row_before keys a b = is_lt (rows_cmp keys a b)

abbrev pub sort_key : {A : Type 0} → Held A → Key A → SortKey
sort_key held k = record { descending = k.0; slots = column k.1 held }

abbrev pub OrderLaw : Type 0 → Type 0
OrderLaw A =
    (held : Held A) (keys : List (Key A)) (f : A → Slot)
    → gathered (column f held) (ordered (column one held) (map (sort_key held) keys)) ≡ column f (packed (length held) (sorted_by (row_before keys) (present held)))

-- ---- slot by slot

abbrev pub both_at : {A : Type 0} → PairKind → (A → Slot) → (A → Slot) → Option A → Cell
both_at kind f g None = pair_slot kind None None
both_at kind f g (Some a) = pair_slot kind (f a) (g a)
