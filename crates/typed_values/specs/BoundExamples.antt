-- Worked intervals: an expression, the least and the greatest that it can be, and whether the intervals of all its parts lie within 128 bits.
use Rattle.std.specs.Prelude.{◌≡◌, ℕ, ◌^◌, ◌-◌, ◌*◌, ℤ, pos, ◌-ℤ◌, Bool, true, false, List, [], ◌∷◌, map, Option, Some, None}
use Rattle.sql_read.specs.declared.definition.ColumnKind.TheVariants as column
use Rattle.query_trees.specs.declared.expr.BinaryOp.TheVariants as op
use Rattle.query_trees.specs.declared.expr.Polarity.TheVariants.{Plain}
use Rattle.query_trees.specs.declared.expr.Sign.TheVariants as sign
use Rattle.typed_trees.specs.declared.typed.TypedExpr.{TypedExpr}
use Rattle.typed_trees.specs.declared.typed.TypedExpr.TheVariants as e
use Rattle.typed_values.specs.declared.intervals.Interval.{Interval}
use Rattle.typed_values.specs.Intervals.{interval}
use Rattle.typed_values.specs.Bounds.{interval_of, cannot_overflow}

-- an INTEGER column and a DATE column
abbrev pub a : TypedExpr
a = e.Column (record { source = 0; column = 0 }) (record { kind = column.Integer; width = 0; scale = 0 })

abbrev pub d : TypedExpr
d = e.Column (record { source = 0; column = 1 }) (record { kind = column.Date; width = 0; scale = 0 })

-- DECIMAL(10, 2), DECIMAL(4, 3) and DECIMAL(18, 18) columns
abbrev pub amt : TypedExpr
amt = e.Column (record { source = 0; column = 2 }) (record { kind = column.Decimal; width = 10; scale = 2 })

abbrev pub rate : TypedExpr
rate = e.Column (record { source = 0; column = 3 }) (record { kind = column.Decimal; width = 4; scale = 3 })

abbrev pub tiny : TypedExpr
tiny = e.Column (record { source = 0; column = 4 }) (record { kind = column.Decimal; width = 18; scale = 18 })

abbrev pub number : ℕ → TypedExpr
number n = e.Number n 0

abbrev pub minus : ℕ → ℤ
minus n = pos 0 -ℤ pos n

abbrev pub from_to : ℤ → ℤ → Option Interval
from_to least greatest = Some (interval least greatest)

abbrev pub cube : TypedExpr
cube = e.Binary op.Multiply (e.Binary op.Multiply a a) a

abbrev pub bounded : List (TypedExpr × Option Interval × Bool)
bounded =
    (a, from_to (minus (2 ^ 63)) (pos (2 ^ 63 - 1)), true)
    ∷ (d, from_to (minus 719162) (pos 2932896), true)
    ∷ (e.Signed sign.Minus a, from_to (minus (2 ^ 63 - 1)) (pos (2 ^ 63)), true)
    ∷ (e.Binary op.Subtract a a, from_to (minus (2 ^ 64 - 1)) (pos (2 ^ 64 - 1)), true)
    ∷ (e.Binary op.Multiply a a, from_to (minus (2 ^ 126 - 2 ^ 63)) (pos (2 ^ 126)), true)
    ∷ (e.Divide a sign.Minus 2, from_to (minus (2 ^ 62 - 1)) (pos (2 ^ 62)), true)
    ∷ (cube, from_to (minus (2 ^ 189)) (pos (2 ^ 189 - 2 ^ 126)), false)
    ∷ (e.Binary op.Greater cube (number 0), from_to (pos 0) (pos 1), false)
    ∷ (e.Divide cube sign.Plus (2 ^ 100), from_to (minus (2 ^ 89)) (pos (2 ^ 89 - 2 ^ 26)), false)
    ∷ (e.In Plain a (number 1 ∷ cube ∷ []), from_to (pos 0) (pos 1), false)
    ∷ (number (2 ^ 127 - 1), from_to (pos (2 ^ 127 - 1)) (pos (2 ^ 127 - 1)), true)
    ∷ (e.Binary op.Add (number (2 ^ 127 - 1)) (number 1), from_to (pos (2 ^ 127)) (pos (2 ^ 127)), false)
    ∷ (e.Binary op.Subtract (e.Signed sign.Minus (number (2 ^ 127 - 1))) (number 1), from_to (minus (2 ^ 127)) (minus (2 ^ 127)), true)
    ∷ (e.Aggregate 0 0, None, false)
    ∷ (e.Binary op.Add (e.Aggregate 0 0) a, None, false)
    ∷ (e.Not (e.Binary op.Less (e.Aggregate 0 0) a), from_to (pos 0) (pos 1), false)
    ∷ []

-- numbers of several scales: an operand that is rescaled is a part of its own
abbrev pub tiny_square : TypedExpr
tiny_square = e.Binary op.Multiply tiny tiny

abbrev pub scaled : List (TypedExpr × Option Interval × Bool)
scaled =
    (e.Number 150 2, from_to (pos 150) (pos 150), true)
    ∷ (amt, from_to (minus 9999999999) (pos 9999999999), true)
    ∷ (e.Binary op.Add amt rate, from_to (minus 100000009989) (pos 100000009989), true)
    ∷ (e.Binary op.Multiply amt rate, from_to (minus 99989999990001) (pos 99989999990001), true)
    ∷ (e.Coalesce rate (amt ∷ []), from_to (minus 99999999990) (pos 99999999990), true)
    ∷ (e.Coalesce a (amt ∷ tiny_square ∷ []), from_to (minus (2 ^ 63 * 10 ^ 36)) (pos ((2 ^ 63 - 1) * 10 ^ 36)), false)
    ∷ (e.Binary op.Less amt (e.Number 1 3), from_to (pos 0) (pos 1), true)
    ∷ (e.Binary op.Less a tiny, from_to (pos 0) (pos 1), true)
    ∷ (e.Binary op.Less a tiny_square, from_to (pos 0) (pos 1), false)
    ∷ (e.Between Plain a (number 0) tiny, from_to (pos 0) (pos 1), true)
    ∷ (e.Between Plain a (number 0) tiny_square, from_to (pos 0) (pos 1), false)
    ∷ (e.In Plain a (number 1 ∷ tiny ∷ []), from_to (pos 0) (pos 1), true)
    ∷ (e.In Plain a (number 1 ∷ tiny_square ∷ []), from_to (pos 0) (pos 1), false)
    ∷ (e.IsNull Plain a, from_to (pos 0) (pos 1), true)
    ∷ (e.IsNull Plain cube, from_to (pos 0) (pos 1), false)
    ∷ (tiny_square, from_to (minus ((10 ^ 18 - 1) * (10 ^ 18 - 1))) (pos ((10 ^ 18 - 1) * (10 ^ 18 - 1))), true)
    ∷ (e.Binary op.Multiply tiny_square (e.Number 1 1), from_to (minus ((10 ^ 18 - 1) * (10 ^ 18 - 1))) (pos ((10 ^ 18 - 1) * (10 ^ 18 - 1))), false)
    ∷ []

abbrev pub IntervalsAre : List (TypedExpr × Option Interval × Bool) → Type 0
IntervalsAre rows = map (λ r. interval_of r.0) rows ≡ map (λ r. r.1) rows

abbrev pub AreNarrow : List (TypedExpr × Option Interval × Bool) → Type 0
AreNarrow rows = map (λ r. cannot_overflow r.0) rows ≡ map (λ r. r.2) rows

abbrev pub IntervalTable : Type 0
IntervalTable = IntervalsAre bounded

abbrev pub ScaledIntervalTable : Type 0
ScaledIntervalTable = IntervalsAre scaled

abbrev pub NarrowTable : Type 0
NarrowTable = AreNarrow bounded

abbrev pub ScaledNarrowTable : Type 0
ScaledNarrowTable = AreNarrow scaled
