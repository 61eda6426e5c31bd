-- Over is strict: an argument that is Over on a row makes its aggregate Over on the row's group, and a group with an aggregate that is Over is none.
use Rattle.std.specs.Prelude.{◌≡◌, Bool, true, if◌then◌else◌, List, map, slice_index_or, Some, Ok, Err, is_err}
use Rattle.std.specs.List.{Contains, list_any}
use Rattle.control_vectors.specs.Slots.{over}
use Rattle.sql_values.specs.Values.{Value, null}
use Rattle.typed_trees.specs.declared.typed.Aggregate.{Aggregate}
use Rattle.typed_trees.specs.declared.typed.AggregateKind.{AggregateKind}
use Rattle.typed_trees.specs.declared.typed.ColumnRef.{ColumnRef}
use Rattle.typed_trees.specs.declared.typed.TypedExpr.{TypedExpr}
use Rattle.typed_values.specs.Aggregates.{aggregate_value, argument_over}
use Rattle.typed_values.specs.Values.{Valued, On, value}
use Rattle.query_answers.specs.Answers.{FromRow, Group, column_value, group_value, groups_of, on_group, on_row}
use Rattle.query_answers.specs.Clauses.{Clauses}
use Rattle.query_answers.specs.Overs.{each}

-- ---- arguments

-- where an argument has a value on each row, it has one on any of them
abbrev pub EachRowLaw : Type 0
EachRowLaw =
    (x : TypedExpr) (rows : List FromRow) (values : List Value) → each (λ row. value (on_row row) x) rows ≡ Ok values
    → (row : FromRow) → Contains rows row → (v : Value) × (value (on_row row) x ≡ Ok v)

-- an argument that is Over on some row makes some group's aggregate Over
abbrev pub SomeRowLaw : Type 0
SomeRowLaw =
    (columns : List ColumnRef) (kind : AggregateKind) (x : TypedExpr) (rows : List FromRow) → is_err (each (λ row. value (on_row row) x) rows) ≡ true
    → list_any (λ g. is_err (argument_over kind (Some x) (map column_value g.rows))) (groups_of columns rows) ≡ true

-- ---- groups with the values of their aggregates

-- a value that is not Over
abbrev pub ok_value : Valued → Value
ok_value (Ok v) = v
ok_value (Err e) = null

-- an aggregate over a group's rows
abbrev pub over_group : Aggregate → Group → Valued
over_group a g = aggregate_value a (map column_value g.rows)

-- a group on which no aggregate is Over
abbrev pub group_on : Clauses → Group → On
group_on q g = record { column = group_value q.groups g.key; aggregate = λ n. Ok (slice_index_or (map (λ a. ok_value (over_group a g)) q.aggregates) n null) }

-- aggregate by aggregate
abbrev pub some_over : List Aggregate → List Group → Bool
some_over aggregates groups = list_any (λ a. list_any (λ g. is_err (over_group a g)) groups) aggregates

abbrev pub GroupsOnLaw : Type 0
GroupsOnLaw = (q : Clauses) (groups : List Group) → each (on_group q) groups ≡ (if some_over q.aggregates groups then Err over else Ok (map (group_on q) groups))
