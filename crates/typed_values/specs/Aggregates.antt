-- The value of an aggregate over the rows of a group. After SQL-92 (ISO/IEC 9075:1992), 6.5 <set function specification>, general rules 1 and 2:
-- COUNT(*) counts the rows, and the others regard the argument's values that are not null. A total is exact, and Over where it leaves 128 bits; a mean truncates.
use Rattle.std.specs.Prelude.{ℤ, pos, not, if◌then◌else◌, List, [], ◌∷◌, map, length, Option, Some, None, Ok}
use Rattle.std.specs.List.{fold, filter}
use Rattle.std.specs.Ordering.{is_lt, is_gt}
use Rattle.control_vectors.specs.Folds.{total_of}
use Rattle.sql_values.specs.Values.{Value, number, null, by_value}
use Rattle.query_trees.specs.declared.expr.Sign.TheVariants.{Plus}
use Rattle.typed_trees.specs.declared.typed.Aggregate.{Aggregate}
use Rattle.typed_trees.specs.declared.typed.AggregateKind.{AggregateKind}
use Rattle.typed_trees.specs.declared.typed.AggregateKind.TheVariants.{Count, Sum, Min, Max, Avg}
use Rattle.typed_trees.specs.declared.typed.ColumnRef.{ColumnRef}
use Rattle.typed_trees.specs.declared.typed.TypedExpr.{TypedExpr}
use Rattle.typed_values.specs.Values.{Valued, with, exact, quotient_value, is_null, all_valued, value_on_row}

-- the values that are not null, in order
abbrev pub those_there : List Value → List Value
those_there vs = filter (λ v. not (is_null v)) vs

-- the numbers among some values, in order
abbrev pub numbers_in : List Value → List ℤ
numbers_in [] = []
numbers_in (number z ∷ vs) = z ∷ numbers_in vs
numbers_in (v ∷ vs) = numbers_in vs

-- the lesser of two values, and the greater
abbrev pub lesser : Value → Value → Value
lesser a b = if is_gt (by_value a b) then b else a

abbrev pub greater : Value → Value → Value
greater a b = if is_lt (by_value a b) then b else a

-- ---- over values that are not null, and null where there are none

abbrev pub count_of : List Value → Valued
count_of vs = Ok (number (pos (length vs)))

abbrev pub sum_of : List Value → Valued
sum_of [] = Ok null
sum_of vs = exact (total_of (numbers_in vs))

abbrev pub mean_of : List Value → Valued
mean_of vs = with (sum_of vs) (λ sum. quotient_value sum Plus (length vs))

abbrev pub least_of : List Value → Valued
least_of [] = Ok null
least_of (v ∷ vs) = Ok (fold lesser v vs)

abbrev pub greatest_of : List Value → Valued
greatest_of [] = Ok null
greatest_of (v ∷ vs) = Ok (fold greater v vs)

abbrev pub aggregate_of : AggregateKind → List Value → Valued
aggregate_of Count vs = count_of vs
aggregate_of Sum vs = sum_of vs
aggregate_of Min vs = least_of vs
aggregate_of Max vs = greatest_of vs
aggregate_of Avg vs = mean_of vs

-- ---- over rows

-- of an argument's values, nulls among them
abbrev pub aggregate_over : AggregateKind → List Value → Valued
aggregate_over kind vs = aggregate_of kind (those_there vs)

-- of an argument on each row, Over where it is on one of them; without an argument the count of the rows
abbrev pub argument_over : AggregateKind → Option TypedExpr → List (ColumnRef → Value) → Valued
argument_over kind None rows = Ok (number (pos (length rows)))
argument_over kind (Some x) rows = with (all_valued (map (λ row. value_on_row row x) rows)) (aggregate_over kind)

abbrev pub aggregate_value : Aggregate → List (ColumnRef → Value) → Valued
aggregate_value a rows = argument_over a.kind a.argument rows
