-- The parts of a condition that AND joins, from left to right.
use Rattle.std.specs.Prelude.{Bool, true, false, if◌then◌else◌, List, [], ◌∷◌, ◌++◌, Option, Some, None, unwrap_or}
use Rattle.query_trees.specs.declared.expr.BinaryOp.{BinaryOp}
use Rattle.query_trees.specs.declared.expr.BinaryOp.TheVariants as op
use Rattle.typed_trees.specs.declared.typed.TypedExpr.{TypedExpr}
use Rattle.typed_trees.specs.declared.typed.TypedExpr.TheOpen.{TypedExpr-F}
use Rattle.typed_trees.specs.declared.typed.TypedExpr.TheFolds.{para-TypedExpr}

abbrev pub Parts : Type 0
Parts = Option (List TypedExpr)

-- an operand alone, unless AND joins it
abbrev pub part : TypedExpr × Parts → List TypedExpr
part p = unwrap_or p.1 (p.0 ∷ [])

abbrev pub is_and : BinaryOp → Bool
is_and op.And = true
is_and o = false

abbrev pub joined_by : BinaryOp → List TypedExpr → List TypedExpr → Parts
joined_by o left right = if is_and o then Some (left ++ right) else None

abbrev pub form_parts : TypedExpr-F (TypedExpr × Parts) → Parts
form_parts (TypedExpr-F.Binary o x y) = joined_by o (part x) (part y)
form_parts form = None

-- the parts of what AND joins
unfoldable pub joined_parts : TypedExpr → Parts
joined_parts = para-TypedExpr Parts form_parts

unfoldable pub parts : TypedExpr → List TypedExpr
parts e = unwrap_or (joined_parts e) (e ∷ [])
