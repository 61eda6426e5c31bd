-- A node of an expression's tree.
use Rattle.std.specs.Prelude.{ℕ}
use Rattle.query_trees.specs.declared.expr.Expr.{Expr}
use Rattle.query_trees.specs.declared.expr.Form.{Form}

-- what begins at this byte, and is of this form
abbrev pub node : ℕ → Form → Expr
node at form = record { at = at; form = form }
