-- Aggregates over the slots of a group: folds, and what is made of them.
-- After SQL-92 (ISO/IEC 9075:1992), 6.5 <set function specification>; the operators are those of Voodoo, PVLDB 9(14), 2016, table 2.
use Rattle.std.specs.Prelude.{◌≡◌, ℕ, pos, ◌<◌, ◌^◌, List, length, map, Some, None, Ok, Err, IsOkAnd}
use Rattle.std.specs.List.{Contains}
use Rattle.control_vectors.specs.Slots.{Slot, Cell}
use Rattle.control_vectors.specs.Folds.{fold_slots}
use Rattle.control_vectors.specs.declared.FoldKind.TheVariants as fold
use Rattle.control_vectors.specs.declared.PairKind.{PairKind}
use Rattle.control_vectors.specs.declared.PairKind.TheVariants.{Equals, Divide, Fill}
use Rattle.slot_wise.specs.Pairs.{pair_slot}
use Rattle.sql_values.specs.Values.{Value}
use Rattle.table_load.specs.Databases.{coded}
use Rattle.typed_trees.specs.declared.typed.AggregateKind.{AggregateKind}
use Rattle.typed_trees.specs.declared.typed.AggregateKind.TheVariants.{Count, Sum, Min, Max, Avg}
use Rattle.typed_trees.specs.declared.typed.TypedExpr.{TypedExpr}
use Rattle.typed_trees.specs.Types.{DataType, folded_type}
use Rattle.typed_values.specs.Aggregates.{aggregate_over, argument_over}
use Rattle.typed_values.specs.Values.{value}
use Rattle.query_answers.specs.Answers.{FromRow, column_value, on_row}
use Rattle.held_rows.specs.Held.{one}
use Rattle.expr_values.specs.Laws.{value_slot, value_cell}
use Rattle.held_groups.specs.Groups.{CanCode}

-- what an operator gives for two cells: Over where one of them is
abbrev pub pair_cell : PairKind → Cell → Cell → Cell
pair_cell kind (Ok x) (Ok y) = pair_slot kind x y
pair_cell kind (Ok x) (Err e) = Err e
pair_cell kind (Err e) y = Err e

abbrev pub nought : Cell
nought = Ok (Some (pos 0))

-- 1 for a slot that is there, and 0 for an empty one
abbrev pub there : Slot → Slot
there None = Some (pos 0)
there (Some z) = Some (pos 1)

-- a slot that is there equals itself, and what is empty is filled with 0
abbrev pub ThereLaw : Type 0
ThereLaw = (x : Slot) → pair_cell Fill (pair_slot Equals x x) nought ≡ Ok (there x)

-- how many slots are there: empty where there is no slot at all
abbrev pub counted : List Slot → Cell
counted slots = fold_slots fold.Sum (map there slots)

-- an aggregate of some slots, as folds make it
abbrev pub cell_of_aggregate : AggregateKind → List Slot → Cell
cell_of_aggregate Count slots = pair_cell Fill (counted slots) nought
cell_of_aggregate Sum slots = fold_slots fold.Sum slots
cell_of_aggregate Min slots = fold_slots fold.Min slots
cell_of_aggregate Max slots = fold_slots fold.Max slots
cell_of_aggregate Avg slots = pair_cell Divide (fold_slots fold.Sum slots) (counted slots)

-- a count has 128 bits
abbrev pub IsFew : {A : Type 0} → List A → Type 0
IsFew xs = length xs < 2 ^ 127

-- of values of a type that the aggregate takes
abbrev pub ValuesLaw : Type 0
ValuesLaw =
    (texts : List (List ℕ)) (kind : AggregateKind) (t u : DataType) (values : List Value)
    → folded_type kind t ≡ Some u → ((v : Value) → Contains values v → CanCode texts t.kind v) → IsFew values
    → cell_of_aggregate kind (map (coded texts) values) ≡ value_cell texts (aggregate_over kind values)

-- of an argument that is Over on no row
abbrev pub RowsLaw : Type 0
RowsLaw =
    (texts : List (List ℕ)) (kind : AggregateKind) (t u : DataType) (x : TypedExpr) (rows : List FromRow)
    → folded_type kind t ≡ Some u → ((row : FromRow) → Contains rows row → IsOkAnd (value (on_row row) x) (CanCode texts t.kind)) → IsFew rows
    → cell_of_aggregate kind (map (λ row. value_slot texts (value (on_row row) x)) rows) ≡ value_cell texts (argument_over kind (Some x) (map column_value rows))

-- COUNT(*) counts the marks
abbrev pub RowCountLaw : Type 0
RowCountLaw = (texts : List (List ℕ)) (rows : List FromRow) → IsFew rows → cell_of_aggregate Count (map one rows) ≡ value_cell texts (argument_over Count None (map column_value rows))
