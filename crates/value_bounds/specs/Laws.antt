-- What the interval of an expression that cannot overflow says of its value, on rows whose numbers lie in the intervals of their columns' types: it has one, and a number lies within.
use Rattle.std.specs.Prelude.{◌≡◌, ◌≢◌, int_le, Bool, true, ◌&&◌, Some, Err, IsOkAnd}
use Rattle.std.specs.List.{list_all}
use Rattle.control_vectors.specs.Slots.{over}
use Rattle.typed_trees.specs.declared.typed.ColumnRef.{ColumnRef}
use Rattle.typed_trees.specs.declared.typed.TypedExpr.{TypedExpr}
use Rattle.typed_trees.specs.Columns.{columns_in}
use Rattle.typed_values.specs.declared.intervals.Interval.{Interval}
use Rattle.typed_values.specs.Intervals.{of_type}
use Rattle.typed_values.specs.Bounds.{interval_of, cannot_overflow}
use Rattle.sql_values.specs.Values.{Value, number}
use Rattle.typed_values.specs.Values.{value_on_row}

-- a number between the ends; a text, a truth and null are no numbers, and an interval says nothing of them
abbrev pub holds : Interval → Value → Bool
holds i (number z) = int_le i.least z && int_le z i.greatest
holds i v = true

-- the row's numbers lie in the intervals of their columns' types, at each column of the expression
abbrev pub fits : (ColumnRef → Value) → TypedExpr → Bool
fits columns e = list_all (λ c. holds (of_type c.1) (columns c.0)) (columns_in e)

-- an expression that cannot overflow has a value on each row that fits it, which its interval holds
abbrev pub ValueLaw : Type 0
ValueLaw = (columns : ColumnRef → Value) (e : TypedExpr) (i : Interval) → cannot_overflow e ≡ true → interval_of e ≡ Some i → fits columns e ≡ true → IsOkAnd (value_on_row columns e) (λ v. holds i v ≡ true)

-- an expression that cannot overflow is Over on no row that fits it
abbrev pub NeverOver : Type 0
NeverOver = (columns : ColumnRef → Value) (e : TypedExpr) → cannot_overflow e ≡ true → fits columns e ≡ true → value_on_row columns e ≢ Err over
