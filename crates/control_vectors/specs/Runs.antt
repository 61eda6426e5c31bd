-- Runs of a list of tuples of slots: where a tuple differs from the one before, and the stretches that begin there (controlled folds: Voodoo, PVLDB 9(14), 2016, section 2.2).
use Rattle.std.specs.Prelude.{ℕ, ◌-◌, ◌==◌, Bool, false, ◌||◌, not, List, [], ◌∷◌, length, map, filter, slice_index_or, None}
use Rattle.std.specs.Cmp.Lexicographic.{pointwise}
use Rattle.std.specs.List.{range_with_len}
use Rattle.std.specs.Option.{option_eq}
use Rattle.std.specs.Ordering.{int_eq}
use Rattle.control_vectors.specs.Slots.{Slot}

abbrev pub Tuple : Type 0
Tuple = List Slot

-- an empty slot equals an empty one; tuples are equal slot by slot
abbrev pub slot_eq : Slot → Slot → Bool
slot_eq = option_eq int_eq

abbrev pub tuple_eq : Tuple → Tuple → Bool
tuple_eq = pointwise slot_eq

-- whether a run begins at a place: the first place, and each whose tuple differs from the one before
abbrev pub begins : List Tuple → ℕ → Bool
begins tuples i = i == 0 || not (tuple_eq (slice_index_or tuples i []) (slice_index_or tuples (i - 1) []))

-- for each place whether a run begins there, and the places where one does
abbrev pub run_marks : List Tuple → List Bool
run_marks tuples = map (begins tuples) (range_with_len 0 (length tuples))

abbrev pub run_starts : List Tuple → List ℕ
run_starts tuples = filter (begins tuples) (range_with_len 0 (length tuples))

-- lists of slots side by side: at each of n places the tuple of their slots
abbrev pub side_by_side : ℕ → List (List Slot) → List Tuple
side_by_side n columns = map (λ i. map (λ xs. slice_index_or xs i None) columns) (range_with_len 0 n)

-- whether one list of slots differs at a place from the place before
abbrev pub differs : List Slot → ℕ → Bool
differs xs i = not (slot_eq (slice_index_or xs i None) (slice_index_or xs (i - 1) None))

-- ---- the stretches of a list that begin at marks
-- an element before some runs: it joins the first of them, unless a mark stands there
abbrev pub runs_with_first : {A : Type 0} → List Bool → A → List (List A) → List (List A)
runs_with_first (false ∷ marks) x (run ∷ others) = (x ∷ run) ∷ others
runs_with_first marks x others = (x ∷ []) ∷ others

-- the runs of a list, whose first place begins one whatever its mark
abbrev pub runs : {A : Type 0} → List Bool → List A → List (List A)
runs [] xs = []
runs (mark ∷ marks) [] = []
runs (mark ∷ marks) (x ∷ xs) = runs_with_first marks x (runs marks xs)
