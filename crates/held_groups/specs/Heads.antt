-- Groups at the places where their runs begin: what folds over the sorted rows give there.
-- After SQL-92 (ISO/IEC 9075:1992), 7.7 <group by clause>; controlled folds are those of Voodoo, PVLDB 9(14), 2016, section 2.2.
use Rattle.std.specs.Prelude.{◌≡◌, ℕ, ◌≤◌, pos, Bool, true, List, ◌∷◌, ◌++◌, length, map, slice_index_or, Some, None}
use Rattle.std.specs.List.{Contains, range_with_len}
use Rattle.std.specs.Option.{option_map}
use Rattle.control_vectors.specs.Folds.{fold_slots}
use Rattle.control_vectors.specs.Runs.{run_marks, side_by_side}
use Rattle.control_vectors.specs.Slots.{Slot, Cell, fits_128, cells_of}
use Rattle.control_vectors.specs.declared.FoldKind.{FoldKind}
use Rattle.control_vectors.specs.declared.FoldKind.TheVariants.{Max}
use Rattle.control_vectors.specs.declared.PairKind.TheVariants.{Add}
use Rattle.slot_folds.specs.Folds.{folded}
use Rattle.slot_wise.specs.Pairs.{pair_slot}
use Rattle.table_load.specs.Databases.{coded}
use Rattle.typed_trees.specs.declared.typed.ColumnRef.{ColumnRef}
use Rattle.query_answers.specs.Answers.{FromRow, Group, group_value, groups_of}
use Rattle.query_answers.specs.Runs.{run_group}
use Rattle.held_rows.specs.Held.{Held, present, column, one, packed}
use Rattle.held_runs.specs.Laws.{row_runs, run_heads, cell_at}
use Rattle.held_groups.specs.Groups.{column_slot, RowsCanCode, AreSame, sorted_rows, run_slots}

-- each group at the first place of its run, at n places
abbrev pub group_places : List (List ℕ) → List ColumnRef → List ColumnRef → List ColumnRef → ℕ → List FromRow → Held Group
group_places texts columns front behind n rows = map (option_map (run_group columns)) (run_heads n (row_runs (run_slots texts front behind) (sorted_rows texts columns rows)))

-- a column of the sorted rows, which stand at the first places
abbrev pub sorted_column : List (List ℕ) → List ColumnRef → ℕ → List FromRow → (FromRow → Slot) → List Slot
sorted_column texts columns n rows f = column f (packed n (sorted_rows texts columns rows))

-- a fold of such a column, run by run
abbrev pub run_fold : List (List ℕ) → List ColumnRef → List ColumnRef → List ColumnRef → ℕ → List FromRow → FoldKind → (FromRow → Slot) → List Cell
run_fold texts columns front behind n rows kind f =
    folded kind (run_marks (side_by_side n (map (sorted_column texts columns n rows) (run_slots texts front behind)))) (sorted_column texts columns n rows f)

-- an empty slot, or a number of 128 bits
abbrev pub fits : Slot → Bool
fits None = true
fits (Some z) = fits_128 z

-- 0 for each group
abbrev pub zero_of : Group → Slot
zero_of g = Some (pos 0)

-- the value of a group column, as a slot
abbrev pub key_slot : List (List ℕ) → List ColumnRef → ColumnRef → Group → Slot
key_slot texts columns c g = coded texts (group_value columns g.key c)

pub record HeadLaws : Type 0 where
  -- the groups, in order
  pub groups : (texts : List (List ℕ)) (c : ColumnRef) (cs front behind : List ColumnRef) (n : ℕ) (rows : List FromRow)
      → RowsCanCode texts (c ∷ cs) rows → AreSame (c ∷ cs) (front ++ behind) → present (group_places texts (c ∷ cs) front behind n rows) ≡ groups_of (c ∷ cs) rows
  pub long : (texts : List (List ℕ)) (columns front behind : List ColumnRef) (n : ℕ) (rows : List FromRow) → length rows ≤ n → length (group_places texts columns front behind n rows) ≡ n
  -- the fold of each group's rows
  pub folds : (texts : List (List ℕ)) (columns front behind : List ColumnRef) (n : ℕ) (rows : List FromRow) (kind : FoldKind) (f : FromRow → Slot) → length rows ≤ n
      → run_fold texts columns front behind n rows kind f ≡ map (cell_at (λ g. fold_slots kind (map f g.rows))) (group_places texts columns front behind n rows)
  -- the greatest mark of each group is a mark
  pub marks : (texts : List (List ℕ)) (columns front behind : List ColumnRef) (n : ℕ) (rows : List FromRow) → length rows ≤ n
      → run_fold texts columns front behind n rows Max one ≡ cells_of (column one (group_places texts columns front behind n rows))
  -- 0 with a column of the first rows is the column of the groups
  pub keys : (texts : List (List ℕ)) (columns front behind : List ColumnRef) (n : ℕ) (rows : List FromRow) (c : ColumnRef)
      → Contains columns c → length rows ≤ n → ((row : FromRow) → Contains rows row → fits (column_slot texts c row) ≡ true)
      → map (λ i. pair_slot Add (slice_index_or (column zero_of (group_places texts columns front behind n rows)) i None) (slice_index_or (sorted_column texts columns n rows (column_slot texts c)) i None)) (range_with_len 0 n)
      ≡ cells_of (column (key_slot texts columns c) (group_places texts columns front behind n rows))
