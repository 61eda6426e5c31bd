-- The value of an expression on a row or on a group. After SQL-92 (ISO/IEC 9075:1992), 6.12 <numeric value expression>, 8.2 to 8.4 and 8.12 <search condition>,
-- but for arithmetic, which is exact, and Over where it leaves 128 bits. A number is whole: it stands for itself divided by ten to the power of its expression's scale.
use Rattle.std.specs.Prelude.{ℕ, zero, suc, ◌-◌, max, ℤ, pos, int_div, Bool, true, false, not, List, [], ◌∷◌, map, Option, Some, None, Result, Ok, Err}
use Rattle.std.specs.declared.cmp.Ordering.{Ordering}
use Rattle.std.specs.Ordering.{is_lt, is_eq, is_gt}
use Rattle.sql_values.specs.Values.{Value, number, text, truth, null, by_value}
use Rattle.control_vectors.specs.declared.Over.{Over}
use Rattle.control_vectors.specs.Slots.{over, in_128_bits}
use Rattle.query_trees.specs.declared.expr.BinaryOp.{BinaryOp}
use Rattle.query_trees.specs.declared.expr.BinaryOp.TheVariants as op
use Rattle.query_trees.specs.declared.expr.Polarity.{Polarity}
use Rattle.query_trees.specs.declared.expr.Polarity.TheVariants.{Plain, Negated}
use Rattle.query_trees.specs.declared.expr.Sign.{Sign}
use Rattle.typed_trees.specs.declared.typed.ColumnRef.{ColumnRef}
use Rattle.typed_trees.specs.declared.typed.TypedExpr.{TypedExpr}
use Rattle.typed_trees.specs.declared.typed.TypedExpr.TheOpen.{TypedExpr-F}
use Rattle.typed_trees.specs.declared.typed.TypedExpr.TheFolds.{map-TypedExpr, para-TypedExpr}
use Rattle.typed_trees.specs.Scales.{greatest, scale_of}
use Rattle.typed_values.specs.Intervals.{signed, combined, raised}

-- a value, or Over: a number that leaves 128 bits
abbrev pub Valued : Type 0
Valued = Result Value Over

-- what an expression is evaluated on: the values of columns and of aggregates
pub record On : Type 0 where
  pub column : ColumnRef → Value
  pub aggregate : ℕ → Valued

-- ---- Over is strict

abbrev pub with : {X : Type 0} → Result X Over → (X → Valued) → Valued
with (Ok x) f = f x
with (Err e) f = Err e

abbrev pub with_both : Valued → Valued → (Value → Value → Valued) → Valued
with_both a b f = with a (λ v. with b (f v))

-- all values, or Over where one of them is
abbrev pub more_valued : Value → Result (List Value) Over → Result (List Value) Over
more_valued v (Ok vs) = Ok (v ∷ vs)
more_valued v (Err e) = Err e

abbrev pub all_valued : List Valued → Result (List Value) Over
all_valued [] = Ok []
all_valued (Err e ∷ vs) = Err e
all_valued (Ok v ∷ vs) = more_valued v (all_valued vs)

-- ---- arithmetic: null of a null

abbrev pub or_over : Option ℤ → Valued
or_over (Some z) = Ok (number z)
or_over None = Err over

abbrev pub exact : ℤ → Valued
exact z = or_over (in_128_bits z)

abbrev pub arithmetic : (ℤ → ℤ → ℤ) → Value → Value → Valued
arithmetic f (number x) (number y) = exact (f x y)
arithmetic f a b = Ok null

abbrev pub signed_value : Sign → Value → Valued
signed_value s (number x) = exact (signed s x)
signed_value s a = Ok null

-- a quotient truncates
abbrev pub quotient_value : Value → Sign → ℕ → Valued
quotient_value (number x) s n = exact (int_div x (signed s (pos n)))
quotient_value a s n = Ok null

-- ---- comparisons: by the order of values; unknown, a null, beside a null

-- what a comparison is true of: how its left side compares with its right one
abbrev pub holds : BinaryOp → Ordering → Bool
holds op.Equal r = is_eq r
holds op.Differs r = not (is_eq r)
holds op.Less r = is_lt r
holds op.LessEqual r = not (is_gt r)
holds op.Greater r = is_gt r
holds o r = not (is_lt r)

abbrev pub comparison : BinaryOp → Value → Value → Value
comparison o null b = null
comparison o a null = null
comparison o a b = truth (holds o (by_value a b))

-- ---- truths, where null is unknown

abbrev pub both : Value → Value → Value
both (truth false) b = truth false
both a (truth false) = truth false
both (truth true) (truth b) = truth b
both a b = null

abbrev pub opposite : Value → Value
opposite (truth b) = truth (not b)
opposite a = null

abbrev pub either : Value → Value → Value
either a b = opposite (both (opposite a) (opposite b))

abbrev pub by_polarity : Polarity → Value → Value
by_polarity Plain a = a
by_polarity Negated a = opposite a

abbrev pub is_null : Value → Bool
is_null null = true
is_null v = false

-- the first that is not null, and null where all are
abbrev pub first_there : List Value → Value
first_there [] = null
first_there (null ∷ vs) = first_there vs
first_there (v ∷ vs) = v

-- ---- scales: before a sum, a difference, a comparison or a choice each number is rescaled to the greatest scale of the operands

-- an operand: its scale, and its value
pub record Operand : Type 0 where
  pub scale : ℕ
  pub value : Valued

-- a number with some more digits after the point; what keeps its scale stays as it is, and so does what is no number
abbrev pub rescaled : ℕ → Value → Valued
rescaled zero v = Ok v
rescaled (suc n) (number z) = exact (raised (suc n) z)
rescaled (suc n) v = Ok v

abbrev pub at_scale : ℕ → Operand → Valued
at_scale to x = with x.value (rescaled (to - x.scale))

-- two operands at the greater of their scales
abbrev pub at_one_scale : Operand → Operand → (Value → Value → Valued) → Valued
at_one_scale x y f = with_both (at_scale (max x.scale y.scale) x) (at_scale (max x.scale y.scale) y) f

-- several at the greatest of all their scales
abbrev pub all_at_one_scale : Operand → List Operand → Result (List Value) Over
all_at_one_scale x ys = all_valued (map (at_scale (greatest x.scale (map (λ y. y.scale) ys))) (x ∷ ys))

-- ---- expressions

abbrev pub compared : BinaryOp → Operand → Operand → Valued
compared o x y = at_one_scale x y (λ v w. Ok (comparison o v w))

-- a product multiplies unscaled numbers
abbrev pub binary_value : BinaryOp → Operand → Operand → Valued
binary_value op.Or x y = with_both x.value y.value (λ v w. Ok (either v w))
binary_value op.And x y = with_both x.value y.value (λ v w. Ok (both v w))
binary_value op.Add x y = at_one_scale x y (arithmetic (combined op.Add))
binary_value op.Subtract x y = at_one_scale x y (arithmetic (combined op.Subtract))
binary_value op.Multiply x y = with_both x.value y.value (arithmetic (combined op.Multiply))
binary_value o x y = compared o x y

-- x BETWEEN a AND b is x >= a AND x <= b
abbrev pub between : Operand → Operand → Operand → Valued
between x a b = with_both (compared op.GreaterEqual x a) (compared op.LessEqual x b) (λ v w. Ok (both v w))

-- x IN (..) is an OR of equalities
abbrev pub among : Operand → List Operand → Valued
among x [] = with x.value (λ v. Ok (truth false))
among x (y ∷ ys) = with_both (compared op.Equal x y) (among x ys) (λ v w. Ok (either v w))

abbrev pub form_value : On → TypedExpr-F Operand → Valued
form_value on (TypedExpr-F.Number n scale) = exact (pos n)
form_value on (TypedExpr-F.Text t) = Ok (text t)
form_value on (TypedExpr-F.Date day) = Ok (number day)
form_value on (TypedExpr-F.Column c type) = Ok (on.column c)
form_value on (TypedExpr-F.Aggregate n scale) = on.aggregate n
form_value on (TypedExpr-F.Signed s x) = with x.value (signed_value s)
form_value on (TypedExpr-F.Not x) = with x.value (λ v. Ok (opposite v))
form_value on (TypedExpr-F.Binary o x y) = binary_value o x y
form_value on (TypedExpr-F.Divide x s n) = with x.value (λ v. quotient_value v s n)
form_value on (TypedExpr-F.Between p x a b) = with (between x a b) (λ v. Ok (by_polarity p v))
form_value on (TypedExpr-F.In p x ys) = with (among x ys) (λ v. Ok (by_polarity p v))
form_value on (TypedExpr-F.IsNull p x) = with x.value (λ v. Ok (by_polarity p (truth (is_null v))))
form_value on (TypedExpr-F.Coalesce x ys) = with (all_at_one_scale x ys) (λ vs. Ok (first_there vs))

-- an expression with its value, as an operand
abbrev pub operand : TypedExpr × Valued → Operand
operand x = record { scale = scale_of x.0; value = x.1 }

-- the value of an expression: every part is evaluated, whatever the others are
unfoldable pub value : On → TypedExpr → Valued
value on = para-TypedExpr Valued (λ d. form_value on (map-TypedExpr (TypedExpr × Valued) Operand operand d))

-- on a row, which has no aggregate
abbrev pub value_on_row : (ColumnRef → Value) → TypedExpr → Valued
value_on_row columns = value (record { column = columns; aggregate = λ n. Ok null })

-- on a group: the values of its columns and of its aggregates
abbrev pub value_on_group : (ColumnRef → Value) → (ℕ → Valued) → TypedExpr → Valued
value_on_group columns aggregates = value (record { column = columns; aggregate = aggregates })

-- a condition keeps what it is true of
abbrev pub is_true : Value → Bool
is_true (truth b) = b
is_true v = false
