-- What a fold keeps while it goes along a run, and what it does with a whole run.
use Rattle.std.specs.Prelude.{◌≡◌, ℕ, zero, suc, ◌+◌, ℤ, ◌+ℤ◌, Bool, true, false, List, [], ◌∷◌, ◌++◌, map, drop, length, pos, slice_range, if◌then◌else◌, Some, None, Result, Ok, Err}
use Rattle.std.specs.Int.{int_min, int_max}
use Rattle.std.specs.List.{range_with_len, flat_map}
use Rattle.control_vectors.specs.Slots.{Slot, Cell, fitted, cells_of, has_over}
use Rattle.control_vectors.specs.Sums.{Sum}
use Rattle.control_vectors.specs.declared.FoldKind.{FoldKind}
use Rattle.control_vectors.specs.declared.FoldKind.TheVariants as kind
use Rattle.slot_columns.specs.declared.stop.Stop.{Stop}
use Rattle.slot_columns.specs.declared.stop.Stop.TheVariants.{NoMemory, Overflow}
use Rattle.slot_columns.specs.Builders.{BuilderValue}
use Rattle.slot_folds.specs.declared.folding.Job.{Job}
use Rattle.slot_folds.specs.declared.folding.Job.TheVariants.{Fold, Select, Scan}
use Rattle.control_vectors.specs.Runs.{runs}
use Rattle.slot_folds.specs.Folds.{holds, fold_run, select_run, scan_run}

-- a sum with one more slot, which adds nothing where it is empty
abbrev pub plus_slot : Sum → Slot → Sum
plus_slot s None = s
plus_slot s (Some x) = record { value = s.value +ℤ x; terms = s.terms + 1 }

-- a sum as a cell: empty where it adds nothing
abbrev pub slot_of_terms : ℕ → ℤ → Cell
slot_of_terms zero z = Ok None
slot_of_terms (suc n) z = fitted z

abbrev pub sum_slot : Sum → Cell
sum_slot s = slot_of_terms s.terms s.value

abbrev pub is_sum : FoldKind → Bool
is_sum kind.Sum = true
is_sum kind.Min = false
is_sum kind.Max = false

-- the lesser or the greater of two numbers
abbrev pub better_of : FoldKind → ℤ → ℤ → ℤ
better_of kind.Sum a b = int_max a b
better_of kind.Min a b = int_min a b
better_of kind.Max a b = int_max a b

-- the best so far with one more slot
abbrev pub best_with : FoldKind → Slot → Slot → Slot
best_with kind None s = s
best_with kind (Some a) None = Some a
best_with kind (Some a) (Some b) = Some (better_of kind a b)

-- what a job makes of the runs from a place on
abbrev pub job_from : Job → List Bool → List Slot → ℕ → List Cell
job_from (Fold kind) marks xs i = flat_map (fold_run kind) (runs (drop i marks) (drop i xs))
job_from Select marks xs i = cells_of (flat_map (select_run xs) (runs (drop i marks) (drop i (range_with_len 0 (length xs)))))
job_from Scan marks xs i = flat_map scan_run (runs (drop i marks) (drop i xs))

-- a builder's slots grow by just these cells, or one of them is Over
abbrev pub Extends : Result (Unit {0}) Stop → BuilderValue → BuilderValue → List Cell → Type 0
Extends (Ok u) old new cells = (new.room ≡ old.room) × (cells_of new.slots ≡ cells_of old.slots ++ cells)
Extends (Err NoMemory) old new cells = Unit {0}
Extends (Err Overflow) old new cells = has_over cells ≡ true

-- what a job makes of the run between two places
abbrev pub job_run : Job → List Slot → ℕ → ℕ → List Cell
job_run (Fold kind) xs from to = fold_run kind (slice_range xs from to)
job_run Select xs from to = cells_of (select_run xs (slice_range (range_with_len 0 (length xs)) from to))
job_run Scan xs from to = scan_run (slice_range xs from to)

-- a builder with slots more
abbrev pub grown : BuilderValue → List Slot → BuilderValue
grown b slots = record { room = b.room; slots = b.slots ++ slots }

-- places as slots
abbrev pub places_of : List ℕ → List Slot
places_of places = map (λ i. Some (pos i)) places

-- a place, if its slot is neither empty nor 0
abbrev pub picked : Slot → ℕ → List ℕ
picked s i = if holds s then i ∷ [] else []

-- a total as a cell, empty where the slot is that it ends with
abbrev pub total_at : ℤ → Slot → Cell
total_at z None = Ok None
total_at z (Some x) = fitted z

-- how many places stand before the first mark
abbrev pub unmarked : List Bool → ℕ
unmarked [] = 0
unmarked (true ∷ marks) = 0
unmarked (false ∷ marks) = suc (unmarked marks)
