-- Groups as runs of rows, where the values of the group columns stand in slots: a number itself, and a text its code in a dictionary.
-- After SQL-92 (ISO/IEC 9075:1992), 7.7 <group by clause>; runs are those of controlled folds (Voodoo, PVLDB 9(14), 2016, section 2.2).
use Rattle.std.specs.Prelude.{◌≡◌, ℕ, true, false, List, ◌∷◌, ◌++◌, ◌↔◌, map}
use Rattle.std.specs.List.{Contains}
use Rattle.std.specs.Option.{option_cmp}
use Rattle.std.specs.Ordering.{int_cmp}
use Rattle.control_vectors.specs.Slots.{Slot}
use Rattle.sort_order.specs.Orders.{sorted_by}
use Rattle.sql_values.specs.Values.{Value, by_value}
use Rattle.table_load.specs.Databases.{coded}
use Rattle.typed_trees.specs.declared.kinds.Kind.{Kind}
use Rattle.typed_trees.specs.declared.typed.ColumnRef.{ColumnRef}
use Rattle.value_laws.specs.Laws.{is_of}
use Rattle.query_answers.specs.Answers.{FromRow, column_value, groups_of}
use Rattle.query_answers.specs.Runs.{key_before, run_group}
use Rattle.held_rows.specs.Held.{one}
use Rattle.held_rows.specs.Laws.{Key, row_before}
use Rattle.held_runs.specs.Laws.{row_runs}
use Rattle.expr_values.specs.Laws.{is_known}

-- ---- codes

-- a value of a kind, or null; if it is a text, one of the dictionary
pub record CanCode (texts : List (List ℕ)) (kind : Kind) (v : Value) : Type 0 where
  pub is : is_of kind v ≡ true
  pub known : is_known texts v ≡ true

-- such values compare as their slots do
abbrev pub CodeLaw : Type 0
CodeLaw = (texts : List (List ℕ)) (kind : Kind) (a b : Value) → CanCode texts kind a → CanCode texts kind b → option_cmp int_cmp (coded texts a) (coded texts b) ≡ by_value a b

-- ---- order

-- a column of rows, as slots, and as an ascending sort key
abbrev pub column_slot : List (List ℕ) → ColumnRef → FromRow → Slot
column_slot texts c row = coded texts (column_value row c)

abbrev pub column_key : List (List ℕ) → ColumnRef → Key FromRow
column_key texts c = (false, column_slot texts c)

-- in a column of some rows stand values of one kind
abbrev pub ColumnCanCode : List (List ℕ) → List FromRow → ColumnRef → Type 0
ColumnCanCode texts rows c = (kind : Kind) × ((row : FromRow) → Contains rows row → CanCode texts kind (column_value row c))

abbrev pub RowsCanCode : List (List ℕ) → List ColumnRef → List FromRow → Type 0
RowsCanCode texts columns rows = (c : ColumnRef) → Contains columns c → ColumnCanCode texts rows c

-- a stable sort by the columns' slots is one by group key
abbrev pub SortLaw : Type 0
SortLaw =
    (texts : List (List ℕ)) (columns : List ColumnRef) (rows : List FromRow)
    → RowsCanCode texts columns rows → sorted_by (row_before (map (column_key texts) columns)) rows ≡ sorted_by (key_before columns) rows

-- ---- groups

-- the rows, sorted stably by the group columns
abbrev pub sorted_rows : List (List ℕ) → List ColumnRef → List FromRow → List FromRow
sorted_rows texts columns rows = sorted_by (row_before (map (column_key texts) columns)) rows

-- the slots whose tuples make the runs: those of some columns, the mark, and those of others
abbrev pub run_slots : List (List ℕ) → List ColumnRef → List ColumnRef → List (FromRow → Slot)
run_slots texts front behind = map (column_slot texts) front ++ one ∷ map (column_slot texts) behind

-- the same columns, in whatever order
abbrev pub AreSame : List ColumnRef → List ColumnRef → Type 0
AreSame columns others = (c : ColumnRef) → Contains columns c ↔ Contains others c

abbrev pub GroupLaw : Type 0
GroupLaw =
    (texts : List (List ℕ)) (c : ColumnRef) (cs front behind : List ColumnRef) (rows : List FromRow)
    → RowsCanCode texts (c ∷ cs) rows → AreSame (c ∷ cs) (front ++ behind)
    → map (run_group (c ∷ cs)) (row_runs (run_slots texts front behind) (sorted_rows texts (c ∷ cs) rows)) ≡ groups_of (c ∷ cs) rows

-- the rows of a run are among the rows
abbrev pub MemberLaw : Type 0
MemberLaw =
    (texts : List (List ℕ)) (fs : List (FromRow → Slot)) (columns : List ColumnRef) (rows run : List FromRow) (row : FromRow)
    → Contains (row_runs fs (sorted_rows texts columns rows)) run → Contains run row → Contains rows row
