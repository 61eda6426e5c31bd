-- The kinds of values, and the families of operators.
-- After SQL-92 (ISO/IEC 9075:1992), 6.12 <numeric value expression>, 8.2 <comparison predicate> and 8.12 <search condition>.
use Rattle.std.specs.Prelude.{Bool, true, false, not, ◌&&◌}
use Rattle.sql_read.specs.declared.definition.ColumnKind.{ColumnKind}
use Rattle.sql_read.specs.declared.definition.ColumnKind.TheVariants as column
use Rattle.query_trees.specs.declared.expr.BinaryOp.{BinaryOp}
use Rattle.query_trees.specs.declared.expr.BinaryOp.TheVariants as op
use Rattle.typed_trees.specs.declared.kinds.Kind.{Kind}
use Rattle.typed_trees.specs.declared.kinds.Kind.TheVariants.{Number, Date, Text, Truth}
use Rattle.typed_trees.specs.declared.kinds.Family.{Family}
use Rattle.typed_trees.specs.declared.kinds.Family.TheVariants.{Logic, Comparison, Arithmetic}
use Rattle.typed_trees.specs.declared.kinds.Role.{Role}
use Rattle.typed_trees.specs.declared.kinds.Role.TheVariants.{Side, Alone}

abbrev pub kind_of : ColumnKind → Kind
kind_of column.Integer = Number
kind_of column.Date = Date
kind_of column.Text = Text
kind_of column.Decimal = Number

abbrev pub same_kind : Kind → Kind → Bool
same_kind Number Number = true
same_kind Date Date = true
same_kind Text Text = true
same_kind Truth Truth = true
same_kind a b = false

abbrev pub is_number : Kind → Bool
is_number Number = true
is_number a = false

abbrev pub is_truth : Kind → Bool
is_truth Truth = true
is_truth a = false

-- sides of one comparison: two numbers, two dates or two texts
abbrev pub compare : Kind → Kind → Bool
compare a b = same_kind a b && not (is_truth a)

abbrev pub family_of : BinaryOp → Family
family_of op.Or = Logic
family_of op.And = Logic
family_of op.Add = Arithmetic
family_of op.Subtract = Arithmetic
family_of op.Multiply = Arithmetic
family_of o = Comparison

-- Only a comparison's side may be a text literal.
abbrev pub role_in : Family → Role
role_in Comparison = Side
role_in of = Alone

abbrev pub takes : Family → Kind → Kind → Bool
takes Logic a b = is_truth a && is_truth b
takes Comparison a b = compare a b
takes Arithmetic a b = is_number a && is_number b

abbrev pub makes : Family → Kind
makes Arithmetic = Number
makes of = Truth
