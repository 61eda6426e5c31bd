-- Folds over the runs of rows that stand at the first places of a vector, for rows of any type.
-- After Voodoo, PVLDB 9(14), 2016, section 2.2 and table 2.
use Rattle.std.specs.Prelude.{◌≡◌, ℕ, zero, suc, ◌-◌, ◌≤◌, List, [], ◌∷◌, ◌++◌, length, map, flat_map, replicate, Option, Some, None, Ok}
use Rattle.control_vectors.specs.Slots.{Slot, Cell}
use Rattle.control_vectors.specs.Folds.{fold_slots}
use Rattle.control_vectors.specs.Runs.{Tuple, run_marks, runs, side_by_side}
use Rattle.control_vectors.specs.declared.FoldKind.{FoldKind}
use Rattle.slot_folds.specs.Folds.{folded}
use Rattle.held_rows.specs.Held.{Held, present, column, one, packed}

-- a row's tuple
abbrev pub tuple_by : {A : Type 0} → List (A → Slot) → A → Tuple
tuple_by fs a = map (λ f. f a) fs

-- the stretches of neighbours of one tuple
abbrev pub row_runs : {A : Type 0} → List (A → Slot) → List A → List (List A)
row_runs fs rows = runs (run_marks (map (tuple_by fs) rows)) rows

-- a run at its first place, and nothing at its others
abbrev pub run_places : {A : Type 0} → List A → Held (List A)
run_places run = Some run ∷ replicate (length run - 1) None

-- each run where it begins, at n places
abbrev pub run_heads : {A : Type 0} → ℕ → List (List A) → Held (List A)
run_heads n rs = flat_map run_places rs ++ replicate (n - length (flat_map run_places rs)) None

-- what a run gives, as a cell
abbrev pub cell_at : {A : Type 0} → (A → Cell) → Option A → Cell
cell_at f None = Ok None
cell_at f (Some a) = f a

-- the mark is among the columns whose tuples make the runs
abbrev pub FoldLaw : Type 0 → Type 0
FoldLaw A =
    (kind : FoldKind) (front behind : List (A → Slot)) (f : A → Slot) (n : ℕ) (rows : List A) → length rows ≤ n
    → folded kind (run_marks (side_by_side n (map (λ g. column g (packed n rows)) (front ++ one ∷ behind)))) (column f (packed n rows))
    ≡ map (cell_at (λ run. fold_slots kind (map f run))) (run_heads n (row_runs (front ++ one ∷ behind) rows))

-- runs are never empty, and are the rows again
pub record RunLaws (A : Type 0) : Type 0 where
  pub nonempty : (fs : List (A → Slot)) (rows run : List A) (others : List (List A)) → row_runs fs rows ≡ run ∷ others → 1 ≤ length run
  pub rows : (fs : List (A → Slot)) (rows : List A) → flat_map (λ run. run) (row_runs fs rows) ≡ rows
  pub heads : (n : ℕ) (rs : List (List A)) → present (run_heads n rs) ≡ rs

-- one run of all places: the fold stands at the first place, if there is one
abbrev pub one_cell : ℕ → Cell → List Cell
one_cell zero x = []
one_cell (suc n) x = x ∷ replicate n (Ok None)

abbrev pub WholeFoldLaw : Type 0 → Type 0
WholeFoldLaw A =
    (kind : FoldKind) (f : A → Slot) (x : Slot) (held : Held A)
    → folded kind (run_marks (side_by_side (length held) (replicate (length held) x ∷ []))) (column f held) ≡ one_cell (length held) (fold_slots kind (map f (present held)))
