-- The scale of an expression: how many digits of its number stand after the point, 0 for what is no number.
-- After SQL-92 (ISO/IEC 9075:1992), 6.12 <numeric value expression>, syntax rule 1, and 6.5 <set function specification>.
use Rattle.std.specs.Prelude.{ℕ, ◌+◌, max, List, [], ◌∷◌}
use Rattle.query_trees.specs.declared.expr.BinaryOp.{BinaryOp}
use Rattle.query_trees.specs.declared.expr.BinaryOp.TheVariants as op
use Rattle.typed_trees.specs.declared.typed.TypedExpr.{TypedExpr}
use Rattle.typed_trees.specs.declared.typed.TypedExpr.TheOpen.{TypedExpr-F}
use Rattle.typed_trees.specs.declared.typed.TypedExpr.TheFolds.{fold-TypedExpr}

-- the greatest of some scales
abbrev pub greatest : ℕ → List ℕ → ℕ
greatest s [] = s
greatest s (t ∷ more) = max s (greatest t more)

-- a sum and a difference have the greater scale of their operands, a product the sum of the two; a truth has 0
abbrev pub binary_scale : BinaryOp → ℕ → ℕ → ℕ
binary_scale op.Add s t = max s t
binary_scale op.Subtract s t = max s t
binary_scale op.Multiply s t = s + t
binary_scale o s t = 0

abbrev pub form_scale : TypedExpr-F ℕ → ℕ
form_scale (TypedExpr-F.Number n scale) = scale
form_scale (TypedExpr-F.Text t) = 0
form_scale (TypedExpr-F.Date day) = 0
form_scale (TypedExpr-F.Column c type) = type.scale
form_scale (TypedExpr-F.Aggregate n scale) = scale
form_scale (TypedExpr-F.Signed s a) = a
form_scale (TypedExpr-F.Not a) = 0
form_scale (TypedExpr-F.Binary o a b) = binary_scale o a b
form_scale (TypedExpr-F.Divide a s n) = a
form_scale (TypedExpr-F.Between p a b c) = 0
form_scale (TypedExpr-F.In p a bs) = 0
form_scale (TypedExpr-F.IsNull p a) = 0
form_scale (TypedExpr-F.Coalesce a bs) = greatest a bs

unfoldable pub scale_of : TypedExpr → ℕ
scale_of = fold-TypedExpr ℕ form_scale
