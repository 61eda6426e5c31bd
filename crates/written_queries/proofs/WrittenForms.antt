-- The literals of each form of a typed expression, by those of its operands.
use Rattle.std.proofs.Common.{◌≡◌, ◌∙◌, ℕ, ℤ, Bool, List, map, sym, ap}
use Rattle.query_trees.specs.declared.expr.BinaryOp.{BinaryOp}
use Rattle.query_trees.specs.declared.expr.Polarity.{Polarity}
use Rattle.query_trees.specs.declared.expr.Sign.{Sign}
use Rattle.typed_trees.specs.declared.typed.ColumnRef.{ColumnRef}
use Rattle.typed_trees.specs.declared.typed.ColumnType.{ColumnType}
use Rattle.typed_trees.specs.declared.typed.TypedExpr.{TypedExpr, roll-TypedExpr}
use Rattle.typed_trees.specs.declared.typed.TypedExpr.TheOpen.{TypedExpr-F}
use Rattle.typed_trees.specs.declared.typed.TypedExpr.TheFolds.{map-TypedExpr, fold-roll-TypedExpr}
use Rattle.typed_trees.specs.declared.typed.TypedExpr.TheVariants as e
use Rattle.typed_trees.specs.declared.typed.TypedExpr.TheVariants.{rolls-Number, rolls-Text, rolls-Date, rolls-Column, rolls-Aggregate, rolls-Signed, rolls-Not, rolls-Binary, rolls-Divide, rolls-Between, rolls-In, rolls-IsNull, rolls-Coalesce}
use Rattle.written_queries.specs.Laws.{form_as_written, is_as_written}

pub written_roll : (d : TypedExpr-F TypedExpr) → is_as_written (roll-TypedExpr d) ≡ form_as_written (map-TypedExpr TypedExpr Bool is_as_written d)
unfolding is_as_written
written_roll d = fold-roll-TypedExpr Bool form_as_written d

pub written_Number : (n scale : ℕ) → is_as_written (e.Number n scale) ≡ form_as_written (TypedExpr-F.Number n scale)
written_Number n scale = ap is_as_written (sym (rolls-Number n scale)) ∙ written_roll (TypedExpr-F.Number n scale)

pub written_Text : (t : List ℕ) → is_as_written (e.Text t) ≡ form_as_written (TypedExpr-F.Text t)
written_Text t = ap is_as_written (sym (rolls-Text t)) ∙ written_roll (TypedExpr-F.Text t)

pub written_Date : (day : ℤ) → is_as_written (e.Date day) ≡ form_as_written (TypedExpr-F.Date day)
written_Date day = ap is_as_written (sym (rolls-Date day)) ∙ written_roll (TypedExpr-F.Date day)

pub written_Column : (c : ColumnRef) (type : ColumnType) → is_as_written (e.Column c type) ≡ form_as_written (TypedExpr-F.Column c type)
written_Column c type = ap is_as_written (sym (rolls-Column c type)) ∙ written_roll (TypedExpr-F.Column c type)

pub written_Aggregate : (n scale : ℕ) → is_as_written (e.Aggregate n scale) ≡ form_as_written (TypedExpr-F.Aggregate n scale)
written_Aggregate n scale = ap is_as_written (sym (rolls-Aggregate n scale)) ∙ written_roll (TypedExpr-F.Aggregate n scale)

pub written_Signed : (s : Sign) (x : TypedExpr) → is_as_written (e.Signed s x) ≡ form_as_written (TypedExpr-F.Signed s (is_as_written x))
written_Signed s x = ap is_as_written (sym (rolls-Signed s x)) ∙ written_roll (TypedExpr-F.Signed s x)

pub written_Not : (x : TypedExpr) → is_as_written (e.Not x) ≡ form_as_written (TypedExpr-F.Not (is_as_written x))
written_Not x = ap is_as_written (sym (rolls-Not x)) ∙ written_roll (TypedExpr-F.Not x)

pub written_Binary : (o : BinaryOp) (x y : TypedExpr) → is_as_written (e.Binary o x y) ≡ form_as_written (TypedExpr-F.Binary o (is_as_written x) (is_as_written y))
written_Binary o x y = ap is_as_written (sym (rolls-Binary o x y)) ∙ written_roll (TypedExpr-F.Binary o x y)

pub written_Divide : (x : TypedExpr) (s : Sign) (n : ℕ) → is_as_written (e.Divide x s n) ≡ form_as_written (TypedExpr-F.Divide (is_as_written x) s n)
written_Divide x s n = ap is_as_written (sym (rolls-Divide x s n)) ∙ written_roll (TypedExpr-F.Divide x s n)

pub written_Between : (p : Polarity) (x y z : TypedExpr) → is_as_written (e.Between p x y z) ≡ form_as_written (TypedExpr-F.Between p (is_as_written x) (is_as_written y) (is_as_written z))
written_Between p x y z = ap is_as_written (sym (rolls-Between p x y z)) ∙ written_roll (TypedExpr-F.Between p x y z)

pub written_In : (p : Polarity) (x : TypedExpr) (ys : List TypedExpr) → is_as_written (e.In p x ys) ≡ form_as_written (TypedExpr-F.In p (is_as_written x) (map is_as_written ys))
written_In p x ys = ap is_as_written (sym (rolls-In p x ys)) ∙ written_roll (TypedExpr-F.In p x ys)

pub written_IsNull : (p : Polarity) (x : TypedExpr) → is_as_written (e.IsNull p x) ≡ form_as_written (TypedExpr-F.IsNull p (is_as_written x))
written_IsNull p x = ap is_as_written (sym (rolls-IsNull p x)) ∙ written_roll (TypedExpr-F.IsNull p x)

pub written_Coalesce : (x : TypedExpr) (ys : List TypedExpr) → is_as_written (e.Coalesce x ys) ≡ form_as_written (TypedExpr-F.Coalesce (is_as_written x) (map is_as_written ys))
written_Coalesce x ys = ap is_as_written (sym (rolls-Coalesce x ys)) ∙ written_roll (TypedExpr-F.Coalesce x ys)
