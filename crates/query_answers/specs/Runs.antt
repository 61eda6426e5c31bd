-- Runs of rows: the stretches of neighbours of one group key, as a controlled fold sees them (Voodoo, PVLDB 9(14), 2016, section 2.2).
use Rattle.std.specs.Prelude.{Bool, true, not, List, [], ◌∷◌, map}
use Rattle.std.specs.Ordering.{is_lt, is_eq}
use Rattle.control_vectors.specs.Runs.{runs}
use Rattle.sql_values.specs.Values.{Value}
use Rattle.typed_trees.specs.declared.typed.ColumnRef.{ColumnRef}
use Rattle.query_answers.specs.Answers.{FromRow, Group, group_key, by_key}

-- by group key
abbrev pub key_before : List ColumnRef → FromRow → FromRow → Bool
key_before columns a b = is_lt (by_key (group_key columns a) (group_key columns b))

-- whether each key differs from the one before it
abbrev pub changes : List Value → List (List Value) → List Bool
changes k [] = []
changes k (l ∷ ls) = not (is_eq (by_key k l)) ∷ changes l ls

abbrev pub key_marks : List (List Value) → List Bool
key_marks [] = []
key_marks (k ∷ ks) = true ∷ changes k ks

abbrev pub key_runs : List ColumnRef → List FromRow → List (List FromRow)
key_runs columns rows = runs (key_marks (map (group_key columns) rows)) rows

-- a run as a group, whose key is that of its first row
abbrev pub run_group : List ColumnRef → List FromRow → Group
run_group columns [] = record { key = []; rows = [] }
run_group columns (r ∷ rs) = record { key = group_key columns r; rows = r ∷ rs }
