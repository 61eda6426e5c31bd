-- The columns of each form of an expression, by those of its operands.
use Rattle.std.proofs.Common.{◌≡◌, ℕ, ℤ, List, map, sym, ap, ◌∙◌}
use Rattle.query_trees.specs.declared.expr.BinaryOp.{BinaryOp}
use Rattle.query_trees.specs.declared.expr.Polarity.{Polarity}
use Rattle.query_trees.specs.declared.expr.Sign.{Sign}
use Rattle.typed_trees.specs.declared.typed.ColumnRef.{ColumnRef}
use Rattle.typed_trees.specs.declared.typed.ColumnType.{ColumnType}
use Rattle.typed_trees.specs.declared.typed.TypedExpr.{TypedExpr, roll-TypedExpr}
use Rattle.typed_trees.specs.declared.typed.TypedExpr.TheOpen.{TypedExpr-F}
use Rattle.typed_trees.specs.declared.typed.TypedExpr.TheFolds.{map-TypedExpr, fold-roll-TypedExpr}
use Rattle.typed_trees.specs.declared.typed.TypedExpr.TheVariants as e
use Rattle.typed_trees.specs.declared.typed.TypedExpr.TheVariants.{rolls-Number, rolls-Text, rolls-Date, rolls-Column, rolls-Aggregate, rolls-Signed, rolls-Not, rolls-Binary, rolls-Divide, rolls-Between, rolls-In, rolls-IsNull, rolls-Coalesce}
use Rattle.typed_trees.specs.Columns.{Columns, form_columns, columns_in}

pub columns_roll : (d : TypedExpr-F TypedExpr) → columns_in (roll-TypedExpr d) ≡ form_columns (map-TypedExpr TypedExpr Columns columns_in d)
unfolding columns_in
columns_roll d = fold-roll-TypedExpr Columns form_columns d

pub columns_Number : (n scale : ℕ) → columns_in (e.Number n scale) ≡ form_columns (TypedExpr-F.Number n scale)
columns_Number n scale = ap columns_in (sym (rolls-Number n scale)) ∙ columns_roll (TypedExpr-F.Number n scale)

pub columns_Text : (t : List ℕ) → columns_in (e.Text t) ≡ form_columns (TypedExpr-F.Text t)
columns_Text t = ap columns_in (sym (rolls-Text t)) ∙ columns_roll (TypedExpr-F.Text t)

pub columns_Date : (day : ℤ) → columns_in (e.Date day) ≡ form_columns (TypedExpr-F.Date day)
columns_Date day = ap columns_in (sym (rolls-Date day)) ∙ columns_roll (TypedExpr-F.Date day)

pub columns_Column : (c : ColumnRef) (type : ColumnType) → columns_in (e.Column c type) ≡ form_columns (TypedExpr-F.Column c type)
columns_Column c type = ap columns_in (sym (rolls-Column c type)) ∙ columns_roll (TypedExpr-F.Column c type)

pub columns_Aggregate : (n scale : ℕ) → columns_in (e.Aggregate n scale) ≡ form_columns (TypedExpr-F.Aggregate n scale)
columns_Aggregate n scale = ap columns_in (sym (rolls-Aggregate n scale)) ∙ columns_roll (TypedExpr-F.Aggregate n scale)

pub columns_Signed : (s : Sign) (x : TypedExpr) → columns_in (e.Signed s x) ≡ form_columns (TypedExpr-F.Signed s (columns_in x))
columns_Signed s x = ap columns_in (sym (rolls-Signed s x)) ∙ columns_roll (TypedExpr-F.Signed s x)

pub columns_Not : (x : TypedExpr) → columns_in (e.Not x) ≡ form_columns (TypedExpr-F.Not (columns_in x))
columns_Not x = ap columns_in (sym (rolls-Not x)) ∙ columns_roll (TypedExpr-F.Not x)

pub columns_Binary : (o : BinaryOp) (x y : TypedExpr) → columns_in (e.Binary o x y) ≡ form_columns (TypedExpr-F.Binary o (columns_in x) (columns_in y))
columns_Binary o x y = ap columns_in (sym (rolls-Binary o x y)) ∙ columns_roll (TypedExpr-F.Binary o x y)

pub columns_Divide : (x : TypedExpr) (s : Sign) (n : ℕ) → columns_in (e.Divide x s n) ≡ form_columns (TypedExpr-F.Divide (columns_in x) s n)
columns_Divide x s n = ap columns_in (sym (rolls-Divide x s n)) ∙ columns_roll (TypedExpr-F.Divide x s n)

pub columns_Between : (p : Polarity) (x y z : TypedExpr) → columns_in (e.Between p x y z) ≡ form_columns (TypedExpr-F.Between p (columns_in x) (columns_in y) (columns_in z))
columns_Between p x y z = ap columns_in (sym (rolls-Between p x y z)) ∙ columns_roll (TypedExpr-F.Between p x y z)

pub columns_In : (p : Polarity) (x : TypedExpr) (ys : List TypedExpr) → columns_in (e.In p x ys) ≡ form_columns (TypedExpr-F.In p (columns_in x) (map columns_in ys))
columns_In p x ys = ap columns_in (sym (rolls-In p x ys)) ∙ columns_roll (TypedExpr-F.In p x ys)

pub columns_IsNull : (p : Polarity) (x : TypedExpr) → columns_in (e.IsNull p x) ≡ form_columns (TypedExpr-F.IsNull p (columns_in x))
columns_IsNull p x = ap columns_in (sym (rolls-IsNull p x)) ∙ columns_roll (TypedExpr-F.IsNull p x)

pub columns_Coalesce : (x : TypedExpr) (ys : List TypedExpr) → columns_in (e.Coalesce x ys) ≡ form_columns (TypedExpr-F.Coalesce (columns_in x) (map columns_in ys))
columns_Coalesce x ys = ap columns_in (sym (rolls-Coalesce x ys)) ∙ columns_roll (TypedExpr-F.Coalesce x ys)
