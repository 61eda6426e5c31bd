-- How many steps the code of an expression has: of each form its own, beside those of its operands; and at most four for each node.
use Rattle.std.specs.Prelude.{ℕ, ◌+◌, ◌*◌, ◌≤◌, List, [], ◌∷◌, length}
use Rattle.query_trees.specs.declared.expr.BinaryOp.{BinaryOp}
use Rattle.query_trees.specs.declared.expr.BinaryOp.TheVariants as op
use Rattle.query_trees.specs.declared.expr.Polarity.{Polarity}
use Rattle.query_trees.specs.declared.expr.Polarity.TheVariants.{Plain, Negated}
use Rattle.typed_trees.specs.declared.typed.TypedExpr.{TypedExpr}
use Rattle.typed_trees.specs.declared.typed.TypedExpr.TheOpen.{TypedExpr-F}
use Rattle.typed_trees.specs.declared.typed.TypedExpr.TheFolds.{fold-TypedExpr}
use Rattle.query_sizes.specs.Sizes.{nodes}
use Rattle.expr_steps.specs.Lowered.{Bytes, lowered, steps_of}

-- a comparison, with a side that is rescaled, or whose codes are counted in halves
abbrev pub comparison_steps : BinaryOp → ℕ
comparison_steps op.Equal = 2
comparison_steps op.Less = 2
comparison_steps op.Greater = 2
comparison_steps o = 3

abbrev pub binary_steps : BinaryOp → ℕ
binary_steps op.Or = 1
binary_steps op.And = 1
binary_steps op.Add = 2
binary_steps op.Subtract = 2
binary_steps op.Multiply = 1
binary_steps o = comparison_steps o

abbrev pub between_steps : Polarity → ℕ
between_steps Plain = 6
between_steps Negated = 5

abbrev pub in_steps : Polarity → ℕ
in_steps Plain = 0
in_steps Negated = 1

-- where IN has no operands, a step reads its left side
abbrev pub alone_steps : List ℕ → ℕ
alone_steps [] = 1
alone_steps (y ∷ ys) = 0

-- each of the others takes this many more
abbrev pub others_steps : ℕ → List ℕ → ℕ
others_steps each [] = 0
others_steps each (y ∷ ys) = (y + each) + others_steps each ys

-- the most that a form takes, where its operands take so many
abbrev pub form_steps : TypedExpr-F ℕ → ℕ
form_steps (TypedExpr-F.Number n scale) = 1
form_steps (TypedExpr-F.Text t) = 1
form_steps (TypedExpr-F.Date day) = 1
form_steps (TypedExpr-F.Column c type) = 0
form_steps (TypedExpr-F.Aggregate n scale) = 0
form_steps (TypedExpr-F.Signed s x) = x + 1
form_steps (TypedExpr-F.Not x) = x + 1
form_steps (TypedExpr-F.Binary o x y) = x + (y + binary_steps o)
form_steps (TypedExpr-F.Divide x s n) = x + 1
form_steps (TypedExpr-F.Between p x a b) = x + (a + (b + between_steps p))
form_steps (TypedExpr-F.In p x ys) = x + ((alone_steps ys + others_steps 3 ys) + in_steps p)
form_steps (TypedExpr-F.IsNull p x) = x + 2
form_steps (TypedExpr-F.Coalesce x ys) = x + (1 + others_steps 2 ys)

unfoldable pub most_steps : TypedExpr → ℕ
most_steps = fold-TypedExpr ℕ form_steps

-- ---- the laws

abbrev pub FormLaw : Type 0
FormLaw = (texts : List Bytes) (e : TypedExpr) (k : ℕ) → length (lowered texts e k).steps ≤ most_steps e

abbrev pub NodeLaw : Type 0
NodeLaw = (e : TypedExpr) → most_steps e + 3 ≤ 4 * nodes e

-- two steps stand before the others, and one behind them
abbrev pub CountLaw : Type 0
CountLaw = (texts : List Bytes) (e : TypedExpr) → length (steps_of texts e) ≤ 4 * nodes e
