-- The intervals of exact arithmetic: the least and the greatest of the exact results at the operands' ends, whole numbers without bound.
use Rattle.std.specs.Prelude.{ℕ, ◌-◌, ◌^◌, ℤ, pos, negsuc, ◌+ℤ◌, ◌-ℤ◌, ◌*ℤ◌, neg_ℤ, int_div, nat_lt, Bool, false}
use Rattle.std.specs.Int.{int_min, int_max}
use Rattle.sql_read.specs.declared.definition.ColumnKind.{ColumnKind}
use Rattle.sql_read.specs.declared.definition.ColumnKind.TheVariants as column
use Rattle.query_trees.specs.declared.expr.BinaryOp.{BinaryOp}
use Rattle.query_trees.specs.declared.expr.BinaryOp.TheVariants as op
use Rattle.query_trees.specs.declared.expr.Sign.{Sign}
use Rattle.query_trees.specs.declared.expr.Sign.TheVariants as sign
use Rattle.typed_trees.specs.declared.typed.ColumnType.{ColumnType}
use Rattle.typed_values.specs.declared.intervals.Interval.{Interval}

abbrev pub interval : ℤ → ℤ → Interval
interval least greatest = record { least = least; greatest = greatest }

-- a decimal's, of at most so many digits
abbrev pub digits : ℕ → Interval
digits p = interval (neg_ℤ (pos (10 ^ p - 1))) (pos (10 ^ p - 1))

-- a column's: 64 bits, the digits of a decimal, the days of 0001-01-01 to 9999-12-31, and the codes of texts. Nulls do not enter it
abbrev pub of_column : ColumnKind → ℕ → Interval
of_column column.Integer width = interval (negsuc 9223372036854775807) (pos 9223372036854775807)
of_column column.Decimal width = digits width
of_column column.Date width = interval (negsuc 719161) (pos 2932896)
of_column column.Text width = interval (pos 0) (pos 4294967295)

abbrev pub of_type : ColumnType → Interval
of_type type = of_column type.kind type.width

abbrev pub truth : Interval
truth = interval (pos 0) (pos 1)

-- a number alone
abbrev pub point : ℤ → Interval
point z = interval z z

-- the least interval around two
abbrev pub around : Interval → Interval → Interval
around a b = interval (int_min a.least b.least) (int_max a.greatest b.greatest)

-- a number with some more digits after the point, and an interval of such numbers
abbrev pub raised : ℕ → ℤ → ℤ
raised n z = z *ℤ pos (10 ^ n)

abbrev pub raised_interval : ℕ → Interval → Interval
raised_interval n a = interval (raised n a.least) (raised n a.greatest)

abbrev pub signed : Sign → ℤ → ℤ
signed sign.Plus z = pos 0 +ℤ z
signed sign.Minus z = pos 0 -ℤ z

abbrev pub signed_interval : Sign → Interval → Interval
signed_interval s a = around (point (signed s a.least)) (point (signed s a.greatest))

abbrev pub combined : BinaryOp → ℤ → ℤ → ℤ
combined op.Subtract x y = x -ℤ y
combined op.Multiply x y = x *ℤ y
combined o x y = x +ℤ y

abbrev pub combined_interval : BinaryOp → Interval → Interval → Interval
combined_interval o a b =
    around (around (point (combined o a.least b.least)) (point (combined o a.least b.greatest)))
    (around (point (combined o a.greatest b.least)) (point (combined o a.greatest b.greatest)))

-- quotients truncate
abbrev pub quotient_interval : Interval → ℤ → Interval
quotient_interval a d = around (point (int_div a.least d)) (point (int_div a.greatest d))

abbrev pub is_zero : ℤ → Bool
is_zero (pos n) = nat_lt n 1
is_zero (negsuc n) = false
