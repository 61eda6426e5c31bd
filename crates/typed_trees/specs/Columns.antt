-- The columns that an expression is made of, each with the type that stands beside it, from left to right.
use Rattle.std.specs.Prelude.{List, [], ◌∷◌, ◌++◌, flat_map}
use Rattle.typed_trees.specs.declared.typed.ColumnRef.{ColumnRef}
use Rattle.typed_trees.specs.declared.typed.ColumnType.{ColumnType}
use Rattle.typed_trees.specs.declared.typed.TypedExpr.{TypedExpr}
use Rattle.typed_trees.specs.declared.typed.TypedExpr.TheOpen.{TypedExpr-F}
use Rattle.typed_trees.specs.declared.typed.TypedExpr.TheFolds.{fold-TypedExpr}

abbrev pub Columns : Type 0
Columns = List (ColumnRef × ColumnType)

abbrev pub form_columns : TypedExpr-F Columns → Columns
form_columns (TypedExpr-F.Number n scale) = []
form_columns (TypedExpr-F.Text t) = []
form_columns (TypedExpr-F.Date day) = []
form_columns (TypedExpr-F.Column c type) = (c, type) ∷ []
form_columns (TypedExpr-F.Aggregate n scale) = []
form_columns (TypedExpr-F.Signed s a) = a
form_columns (TypedExpr-F.Not a) = a
form_columns (TypedExpr-F.Binary o a b) = a ++ b
form_columns (TypedExpr-F.Divide a s n) = a
form_columns (TypedExpr-F.Between p a b c) = a ++ (b ++ c)
form_columns (TypedExpr-F.In p a bs) = a ++ flat_map (λ b. b) bs
form_columns (TypedExpr-F.IsNull p a) = a
form_columns (TypedExpr-F.Coalesce a bs) = a ++ flat_map (λ b. b) bs

unfoldable pub columns_in : TypedExpr → Columns
columns_in = fold-TypedExpr Columns form_columns
