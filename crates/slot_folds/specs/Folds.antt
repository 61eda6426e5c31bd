-- What the folds make of a list of slots, run by run (Voodoo, PVLDB 9(14), 2016, section 2.2; what empty slots give is this project's own).
use Rattle.std.specs.Prelude.{ℕ, pos, ◌+◌, ◌-◌, Bool, true, false, List, ◌∷◌, ◌++◌, length, map, take, replicate, filter, slice_index_or, if◌then◌else◌, Some, None, Ok}
use Rattle.std.specs.List.{range_with_len, flat_map}
use Rattle.std.specs.Ordering.{int_eq}
use Rattle.control_vectors.specs.Slots.{Slot, Cell, fitted, numbers}
use Rattle.control_vectors.specs.Folds.{fold_slots, total_of}
use Rattle.control_vectors.specs.declared.FoldKind.{FoldKind}
use Rattle.control_vectors.specs.Runs.{runs}

-- ---- FoldSum, FoldMin and FoldMax: the fold of a run's nonempty slots at its first place, and empty slots behind it
abbrev pub fold_run : FoldKind → List Slot → List Cell
fold_run kind run = fold_slots kind run ∷ replicate (length run - 1) (Ok None)

abbrev pub folded : FoldKind → List Bool → List Slot → List Cell
folded kind marks xs = flat_map (fold_run kind) (runs marks xs)

-- ---- FoldSelect: a run's places whose slot is neither empty nor 0, from its first place on, and empty slots behind them
abbrev pub holds : Slot → Bool
holds None = false
holds (Some x) = if int_eq x (pos 0) then false else true

abbrev pub chosen : List Slot → List ℕ → List ℕ
chosen xs run = filter (λ i. holds (slice_index_or xs i None)) run

abbrev pub select_run : List Slot → List ℕ → List Slot
select_run xs run = map (λ i. Some (pos i)) (chosen xs run) ++ replicate (length run - length (chosen xs run)) None

abbrev pub selected : List Bool → List Slot → List Slot
selected marks xs = flat_map (select_run xs) (runs marks (range_with_len 0 (length xs)))

-- ---- FoldScan: at each place of a run the total of its nonempty slots up to and with that place, empty where the slot is
abbrev pub scan_cell : List Slot → ℕ → Slot → Cell
scan_cell run i None = Ok None
scan_cell run i (Some x) = fitted (total_of (numbers (take (i + 1) run)))

abbrev pub scan_run : List Slot → List Cell
scan_run run = map (λ i. scan_cell run i (slice_index_or run i None)) (range_with_len 0 (length run))

abbrev pub scanned : List Bool → List Slot → List Cell
scanned marks xs = flat_map scan_run (runs marks xs)
