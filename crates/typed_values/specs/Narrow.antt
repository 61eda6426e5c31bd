-- The interval and the scale of an expression by those of its operands, none where an end of it, or of a part's, leaves 128 bits, or where a scale passes 36.
use Rattle.std.specs.Prelude.{ℕ, ◌+◌, ◌-◌, ◌^◌, max, min, ℤ, pos, ◌-ℤ◌, ◌*ℤ◌, int_div, nat_lt, Bool, true, false, ◌&&◌, if◌then◌else◌, List, map, Option, Some, None, is_some}
use Rattle.std.specs.List.{fold, list_all}
use Rattle.control_vectors.specs.Slots.{in_128_bits}
use Rattle.sql_read.specs.declared.definition.ColumnKind.{ColumnKind}
use Rattle.sql_read.specs.declared.definition.ColumnKind.TheVariants as column
use Rattle.query_trees.specs.declared.expr.BinaryOp.{BinaryOp}
use Rattle.query_trees.specs.declared.expr.BinaryOp.TheVariants as op
use Rattle.query_trees.specs.declared.expr.Sign.{Sign}
use Rattle.typed_trees.specs.declared.typed.ColumnType.{ColumnType}
use Rattle.typed_trees.specs.declared.typed.TypedExpr.{TypedExpr}
use Rattle.typed_trees.specs.declared.typed.TypedExpr.TheOpen.{TypedExpr-F}
use Rattle.typed_trees.specs.declared.typed.TypedExpr.TheFolds.{para-TypedExpr}
use Rattle.typed_trees.specs.Scales.{greatest, scale_of}
use Rattle.typed_values.specs.declared.interval_rule.Bounded.{Bounded}
use Rattle.typed_values.specs.declared.intervals.Interval.{Interval}
use Rattle.typed_values.specs.Intervals as exactly
use Rattle.typed_values.specs.Intervals.{interval, truth, signed, combined, is_zero}
use Rattle.typed_values.specs.Bounds.{hull, has_scale}

-- ---- intervals

abbrev pub point : Option ℤ → Option Interval
point None = None
point (Some z) = Some (interval z z)

abbrev pub between : Option ℤ → Option ℤ → Option Interval
between (Some x) (Some y) = Some (interval x y)
between x y = None

-- an exact result
abbrev pub exact : ℤ → Option Interval
exact z = point (in_128_bits z)

abbrev pub literal : ℕ → Option Interval
literal n = if nat_lt n (2 ^ 127) then Some (interval (pos n) (pos n)) else None

abbrev pub power_of_ten : ℕ → Option ℤ
power_of_ten n = in_128_bits (pos (10 ^ n))

-- up to one below a power of ten
abbrev pub digits_below : Option ℤ → Option Interval
digits_below (Some beyond) = between (in_128_bits (pos 1 -ℤ beyond)) (in_128_bits (beyond -ℤ pos 1))
digits_below None = None

abbrev pub digits : ℕ → Option Interval
digits precision = digits_below (power_of_ten precision)

abbrev pub of_column : ColumnKind → ℕ → Option Interval
of_column column.Decimal width = digits width
of_column kind width = Some (exactly.of_column kind width)

abbrev pub of_type : ColumnType → Option Interval
of_type type = of_column type.kind type.width

abbrev pub times : Interval → Option ℤ → Option Interval
times a (Some power) = between (in_128_bits (a.least *ℤ power)) (in_128_bits (a.greatest *ℤ power))
times a None = None

abbrev pub raised : ℕ → Interval → Option Interval
raised by a = times a (power_of_ten by)

abbrev pub signed_interval : Sign → Interval → Option Interval
signed_interval s a = hull (exact (signed s a.least)) (exact (signed s a.greatest))

abbrev pub combined_interval : BinaryOp → Interval → Interval → Option Interval
combined_interval o a b =
    hull (hull (exact (combined o a.least b.least)) (exact (combined o a.least b.greatest)))
    (hull (exact (combined o a.greatest b.least)) (exact (combined o a.greatest b.greatest)))

abbrev pub quotient_interval : Interval → ℤ → Option Interval
quotient_interval a d = if is_zero d then None else hull (exact (int_div a.least d)) (exact (int_div a.greatest d))

abbrev pub divisor : Sign → ℕ → Option ℤ
divisor s n = if nat_lt n (2 ^ 127) then in_128_bits (signed s (pos n)) else None

-- ---- scales, counted up to 37

abbrev pub counted : ℕ → ℕ
counted scale = min scale 37

-- ---- expressions

abbrev pub Bounds : Type 0
Bounds = Option Bounded

abbrev pub limited : ℕ → Option Interval → Bounds
limited scale (Some a) = if has_scale scale then Some (record { interval = a; scale = scale }) else None
limited scale None = None

abbrev pub signed_bounds : Sign → Bounds → Bounds
signed_bounds s (Some a) = limited a.scale (signed_interval s a.interval)
signed_bounds s None = None

abbrev pub truth_if : Bool → Bounds
truth_if true = Some (record { interval = truth; scale = 0 })
truth_if false = None

abbrev pub at_scale : ℕ → Bounds → Option Interval
at_scale to (Some a) = raised (to - a.scale) a.interval
at_scale to None = None

abbrev pub combined_bounds : BinaryOp → Option Interval → Option Interval → Option Interval
combined_bounds o (Some a) (Some b) = combined_interval o a b
combined_bounds o a b = None

abbrev pub on_both : (Bounded → Bounded → Bounds) → Bounds → Bounds → Bounds
on_both f (Some a) (Some b) = f a b
on_both f a b = None

abbrev pub sum_bounds : BinaryOp → Bounded → Bounded → Bounds
sum_bounds o a b = let to = max a.scale b.scale in limited to (combined_bounds o (at_scale to (Some a)) (at_scale to (Some b)))

abbrev pub product_bounds : Bounded → Bounded → Bounds
product_bounds a b = limited (a.scale + b.scale) (combined_interval op.Multiply a.interval b.interval)

-- whether two operands can be compared, each at the greater scale of the two
abbrev pub are_alike : Bounded → Bounded → Bool
are_alike a b = let to = max a.scale b.scale in is_some (at_scale to (Some a)) && is_some (at_scale to (Some b))

abbrev pub comparable : Bounds → Bounds → Bool
comparable (Some a) (Some b) = are_alike a b
comparable a b = false

abbrev pub both_bounded : BinaryOp → Bounded → Bounded → Bounds
both_bounded op.Or = λ a b. truth_if true
both_bounded op.And = λ a b. truth_if true
both_bounded op.Add = sum_bounds op.Add
both_bounded op.Subtract = sum_bounds op.Subtract
both_bounded op.Multiply = product_bounds
both_bounded o = λ a b. truth_if (are_alike a b)

abbrev pub binary_bounds : BinaryOp → Bounds → Bounds → Bounds
binary_bounds o a b = on_both (both_bounded o) a b

abbrev pub quotient_bounds : Bounds → Option ℤ → Bounds
quotient_bounds (Some a) (Some d) = limited a.scale (quotient_interval a.interval d)
quotient_bounds a d = None

abbrev pub all_comparable : Bounds → List Bounds → Bool
all_comparable x ys = is_some x && list_all (comparable x) ys

-- an operand, with its bounds
abbrev pub Operand : Type 0
Operand = TypedExpr × Bounds

abbrev pub chosen_bounds : ℕ → Bounds → List Bounds → Bounds
chosen_bounds to x ys = limited to (fold hull (at_scale to x) (map (at_scale to) ys))

abbrev pub form_bounds : TypedExpr-F Operand → Bounds
form_bounds (TypedExpr-F.Number n scale) = limited scale (literal n)
form_bounds (TypedExpr-F.Text t) = limited 0 (Some (interval (pos 0) (pos 4294967295)))
form_bounds (TypedExpr-F.Date day) = limited 0 (exact day)
form_bounds (TypedExpr-F.Column c type) = limited type.scale (of_type type)
form_bounds (TypedExpr-F.Aggregate n scale) = None
form_bounds (TypedExpr-F.Signed s x) = signed_bounds s x.1
form_bounds (TypedExpr-F.Not x) = truth_if (is_some x.1)
form_bounds (TypedExpr-F.Binary o x y) = binary_bounds o x.1 y.1
form_bounds (TypedExpr-F.Divide x s n) = quotient_bounds x.1 (divisor s n)
form_bounds (TypedExpr-F.Between p x a b) = truth_if (comparable x.1 a.1 && comparable x.1 b.1)
form_bounds (TypedExpr-F.In p x ys) = truth_if (all_comparable x.1 (map (λ y. y.1) ys))
form_bounds (TypedExpr-F.IsNull p x) = truth_if (is_some x.1)
form_bounds (TypedExpr-F.Coalesce x ys) = chosen_bounds (counted (greatest (scale_of x.0) (map (λ y. scale_of y.0) ys))) x.1 (map (λ y. y.1) ys)

unfoldable pub bounds : TypedExpr → Bounds
bounds = para-TypedExpr Bounds form_bounds
