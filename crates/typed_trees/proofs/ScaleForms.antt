-- The scale of each form of an expression, by the scales of its operands.
use Rattle.std.proofs.Common.{◌≡◌, ℕ, ℤ, List, map, sym, ap, ◌∙◌}
use Rattle.query_trees.specs.declared.expr.BinaryOp.{BinaryOp}
use Rattle.query_trees.specs.declared.expr.Polarity.{Polarity}
use Rattle.query_trees.specs.declared.expr.Sign.{Sign}
use Rattle.typed_trees.specs.declared.typed.ColumnRef.{ColumnRef}
use Rattle.typed_trees.specs.declared.typed.ColumnType.{ColumnType}
use Rattle.typed_trees.specs.declared.typed.TypedExpr.{TypedExpr, roll-TypedExpr}
use Rattle.typed_trees.specs.declared.typed.TypedExpr.TheOpen.{TypedExpr-F}
use Rattle.typed_trees.specs.declared.typed.TypedExpr.TheFolds.{map-TypedExpr, fold-roll-TypedExpr}
use Rattle.typed_trees.specs.declared.typed.TypedExpr.TheVariants as e
use Rattle.typed_trees.specs.declared.typed.TypedExpr.TheVariants.{rolls-Number, rolls-Text, rolls-Date, rolls-Column, rolls-Aggregate, rolls-Signed, rolls-Not, rolls-Binary, rolls-Divide, rolls-Between, rolls-In, rolls-IsNull, rolls-Coalesce}
use Rattle.typed_trees.specs.Scales.{form_scale, scale_of}

pub scale_roll : (d : TypedExpr-F TypedExpr) → scale_of (roll-TypedExpr d) ≡ form_scale (map-TypedExpr TypedExpr ℕ scale_of d)
unfolding scale_of
scale_roll d = fold-roll-TypedExpr ℕ form_scale d

pub scale_Number : (n scale : ℕ) → scale_of (e.Number n scale) ≡ form_scale (TypedExpr-F.Number n scale)
scale_Number n scale = ap scale_of (sym (rolls-Number n scale)) ∙ scale_roll (TypedExpr-F.Number n scale)

pub scale_Text : (t : List ℕ) → scale_of (e.Text t) ≡ form_scale (TypedExpr-F.Text t)
scale_Text t = ap scale_of (sym (rolls-Text t)) ∙ scale_roll (TypedExpr-F.Text t)

pub scale_Date : (day : ℤ) → scale_of (e.Date day) ≡ form_scale (TypedExpr-F.Date day)
scale_Date day = ap scale_of (sym (rolls-Date day)) ∙ scale_roll (TypedExpr-F.Date day)

pub scale_Column : (c : ColumnRef) (type : ColumnType) → scale_of (e.Column c type) ≡ form_scale (TypedExpr-F.Column c type)
scale_Column c type = ap scale_of (sym (rolls-Column c type)) ∙ scale_roll (TypedExpr-F.Column c type)

pub scale_Aggregate : (n scale : ℕ) → scale_of (e.Aggregate n scale) ≡ form_scale (TypedExpr-F.Aggregate n scale)
scale_Aggregate n scale = ap scale_of (sym (rolls-Aggregate n scale)) ∙ scale_roll (TypedExpr-F.Aggregate n scale)

pub scale_Signed : (s : Sign) (x : TypedExpr) → scale_of (e.Signed s x) ≡ form_scale (TypedExpr-F.Signed s (scale_of x))
scale_Signed s x = ap scale_of (sym (rolls-Signed s x)) ∙ scale_roll (TypedExpr-F.Signed s x)

pub scale_Not : (x : TypedExpr) → scale_of (e.Not x) ≡ form_scale (TypedExpr-F.Not (scale_of x))
scale_Not x = ap scale_of (sym (rolls-Not x)) ∙ scale_roll (TypedExpr-F.Not x)

pub scale_Binary : (o : BinaryOp) (x y : TypedExpr) → scale_of (e.Binary o x y) ≡ form_scale (TypedExpr-F.Binary o (scale_of x) (scale_of y))
scale_Binary o x y = ap scale_of (sym (rolls-Binary o x y)) ∙ scale_roll (TypedExpr-F.Binary o x y)

pub scale_Divide : (x : TypedExpr) (s : Sign) (n : ℕ) → scale_of (e.Divide x s n) ≡ form_scale (TypedExpr-F.Divide (scale_of x) s n)
scale_Divide x s n = ap scale_of (sym (rolls-Divide x s n)) ∙ scale_roll (TypedExpr-F.Divide x s n)

pub scale_Between : (p : Polarity) (x y z : TypedExpr) → scale_of (e.Between p x y z) ≡ form_scale (TypedExpr-F.Between p (scale_of x) (scale_of y) (scale_of z))
scale_Between p x y z = ap scale_of (sym (rolls-Between p x y z)) ∙ scale_roll (TypedExpr-F.Between p x y z)

pub scale_In : (p : Polarity) (x : TypedExpr) (ys : List TypedExpr) → scale_of (e.In p x ys) ≡ form_scale (TypedExpr-F.In p (scale_of x) (map scale_of ys))
scale_In p x ys = ap scale_of (sym (rolls-In p x ys)) ∙ scale_roll (TypedExpr-F.In p x ys)

pub scale_IsNull : (p : Polarity) (x : TypedExpr) → scale_of (e.IsNull p x) ≡ form_scale (TypedExpr-F.IsNull p (scale_of x))
scale_IsNull p x = ap scale_of (sym (rolls-IsNull p x)) ∙ scale_roll (TypedExpr-F.IsNull p x)

pub scale_Coalesce : (x : TypedExpr) (ys : List TypedExpr) → scale_of (e.Coalesce x ys) ≡ form_scale (TypedExpr-F.Coalesce (scale_of x) (map scale_of ys))
scale_Coalesce x ys = ap scale_of (sym (rolls-Coalesce x ys)) ∙ scale_roll (TypedExpr-F.Coalesce x ys)
