-- Of the rows of a group: they are rows of the list, and an aggregate over them is what folds make of their slots.
use Rattle.std.specs.Prelude.{◌≡◌, ℕ, ◌≤◌, List, length, map, Some, IsOkAnd, is_err}
use Rattle.std.specs.List.{Contains}
use Rattle.typed_trees.specs.declared.typed.AggregateKind.{AggregateKind}
use Rattle.typed_trees.specs.declared.typed.ColumnRef.{ColumnRef}
use Rattle.typed_trees.specs.declared.typed.TypedExpr.{TypedExpr}
use Rattle.typed_trees.specs.Types.{DataType, folded_type}
use Rattle.typed_values.specs.Values.{Valued, value}
use Rattle.query_answers.specs.Answers.{FromRow, Group, groups_of, on_row}
use Rattle.query_answers.specs.Overs.{each}
use Rattle.expr_values.specs.Laws.{value_slot, value_cell}
use Rattle.held_groups.specs.Aggregates.{cell_of_aggregate, IsFew}
use Rattle.held_groups.specs.Groups.{CanCode, sorted_rows}
use Rattle.held_groups.specs.Overs.{over_group}

pub record GroupRows : Type 0 where
  -- a row of a group is a row
  pub within : (columns : List ColumnRef) (rows : List FromRow) (g : Group) (row : FromRow) → Contains (groups_of columns rows) g → Contains g.rows row → Contains rows row
  pub few : (columns : List ColumnRef) (rows : List FromRow) (g : Group) → Contains (groups_of columns rows) g → length g.rows ≤ length rows
  -- the sorted rows are the rows
  pub sorted_within : (texts : List (List ℕ)) (columns : List ColumnRef) (rows : List FromRow) (row : FromRow) → Contains (sorted_rows texts columns rows) row → Contains rows row
  pub within_sorted : (texts : List (List ℕ)) (columns : List ColumnRef) (rows : List FromRow) (row : FromRow) → Contains rows row → Contains (sorted_rows texts columns rows) row
  -- what is Over on one of them is so in any order
  pub sorted_over : (texts : List (List ℕ)) (columns : List ColumnRef) (rows : List FromRow) (f : FromRow → Valued) → is_err (each f (sorted_rows texts columns rows)) ≡ is_err (each f rows)

-- an aggregate over a group, whose argument is Over on no row
abbrev pub GroupCellLaw : Type 0
GroupCellLaw =
    (texts : List (List ℕ)) (columns : List ColumnRef) (rows : List FromRow) (g : Group) (kind : AggregateKind) (t u : DataType) (x : TypedExpr)
    → folded_type kind t ≡ Some u → ((row : FromRow) → Contains rows row → IsOkAnd (value (on_row row) x) (CanCode texts t.kind)) → IsFew rows → Contains (groups_of columns rows) g
    → cell_of_aggregate kind (map (λ row. value_slot texts (value (on_row row) x)) g.rows) ≡ value_cell texts (over_group (record { kind = kind; argument = Some x }) g)
