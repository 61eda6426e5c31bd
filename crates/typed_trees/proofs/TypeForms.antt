-- The type of each form of an expression, by the types of its operands.
use Rattle.std.proofs.Common.{◌≡◌, ℕ, ℤ, List, Option, map, sym, ap, ◌∙◌}
use Rattle.query_trees.specs.declared.expr.BinaryOp.{BinaryOp}
use Rattle.query_trees.specs.declared.expr.Polarity.{Polarity}
use Rattle.query_trees.specs.declared.expr.Sign.{Sign}
use Rattle.typed_trees.specs.declared.typed.ColumnRef.{ColumnRef}
use Rattle.typed_trees.specs.declared.typed.ColumnType.{ColumnType}
use Rattle.typed_trees.specs.declared.typed.TypedExpr.{TypedExpr, roll-TypedExpr}
use Rattle.typed_trees.specs.declared.typed.TypedExpr.TheOpen.{TypedExpr-F}
use Rattle.typed_trees.specs.declared.typed.TypedExpr.TheFolds.{map-TypedExpr, fold-roll-TypedExpr}
use Rattle.typed_trees.specs.declared.typed.TypedExpr.TheVariants as e
use Rattle.typed_trees.specs.declared.typed.TypedExpr.TheVariants.{rolls-Number, rolls-Text, rolls-Date, rolls-Column, rolls-Aggregate, rolls-Signed, rolls-Not, rolls-Binary, rolls-Divide, rolls-Between, rolls-In, rolls-IsNull, rolls-Coalesce}
use Rattle.typed_trees.specs.Types.{DataType, form_type, type_of}

pub type_roll : (at : ℕ → Option DataType) (d : TypedExpr-F TypedExpr) → type_of at (roll-TypedExpr d) ≡ form_type at (map-TypedExpr TypedExpr (Option DataType) (type_of at) d)
unfolding type_of
type_roll at d = fold-roll-TypedExpr (Option DataType) (form_type at) d

pub type_Number : (at : ℕ → Option DataType) (n scale : ℕ) → type_of at (e.Number n scale) ≡ form_type at (TypedExpr-F.Number n scale)
type_Number at n scale = ap (type_of at) (sym (rolls-Number n scale)) ∙ type_roll at (TypedExpr-F.Number n scale)

pub type_Text : (at : ℕ → Option DataType) (t : List ℕ) → type_of at (e.Text t) ≡ form_type at (TypedExpr-F.Text t)
type_Text at t = ap (type_of at) (sym (rolls-Text t)) ∙ type_roll at (TypedExpr-F.Text t)

pub type_Date : (at : ℕ → Option DataType) (day : ℤ) → type_of at (e.Date day) ≡ form_type at (TypedExpr-F.Date day)
type_Date at day = ap (type_of at) (sym (rolls-Date day)) ∙ type_roll at (TypedExpr-F.Date day)

pub type_Column : (at : ℕ → Option DataType) (c : ColumnRef) (type : ColumnType) → type_of at (e.Column c type) ≡ form_type at (TypedExpr-F.Column c type)
type_Column at c type = ap (type_of at) (sym (rolls-Column c type)) ∙ type_roll at (TypedExpr-F.Column c type)

pub type_Aggregate : (at : ℕ → Option DataType) (n scale : ℕ) → type_of at (e.Aggregate n scale) ≡ form_type at (TypedExpr-F.Aggregate n scale)
type_Aggregate at n scale = ap (type_of at) (sym (rolls-Aggregate n scale)) ∙ type_roll at (TypedExpr-F.Aggregate n scale)

pub type_Signed : (at : ℕ → Option DataType) (s : Sign) (x : TypedExpr) → type_of at (e.Signed s x) ≡ form_type at (TypedExpr-F.Signed s (type_of at x))
type_Signed at s x = ap (type_of at) (sym (rolls-Signed s x)) ∙ type_roll at (TypedExpr-F.Signed s x)

pub type_Not : (at : ℕ → Option DataType) (x : TypedExpr) → type_of at (e.Not x) ≡ form_type at (TypedExpr-F.Not (type_of at x))
type_Not at x = ap (type_of at) (sym (rolls-Not x)) ∙ type_roll at (TypedExpr-F.Not x)

pub type_Binary : (at : ℕ → Option DataType) (o : BinaryOp) (x y : TypedExpr) → type_of at (e.Binary o x y) ≡ form_type at (TypedExpr-F.Binary o (type_of at x) (type_of at y))
type_Binary at o x y = ap (type_of at) (sym (rolls-Binary o x y)) ∙ type_roll at (TypedExpr-F.Binary o x y)

pub type_Divide : (at : ℕ → Option DataType) (x : TypedExpr) (s : Sign) (n : ℕ) → type_of at (e.Divide x s n) ≡ form_type at (TypedExpr-F.Divide (type_of at x) s n)
type_Divide at x s n = ap (type_of at) (sym (rolls-Divide x s n)) ∙ type_roll at (TypedExpr-F.Divide x s n)

pub type_Between : (at : ℕ → Option DataType) (p : Polarity) (x y z : TypedExpr) → type_of at (e.Between p x y z) ≡ form_type at (TypedExpr-F.Between p (type_of at x) (type_of at y) (type_of at z))
type_Between at p x y z = ap (type_of at) (sym (rolls-Between p x y z)) ∙ type_roll at (TypedExpr-F.Between p x y z)

pub type_In : (at : ℕ → Option DataType) (p : Polarity) (x : TypedExpr) (ys : List TypedExpr) → type_of at (e.In p x ys) ≡ form_type at (TypedExpr-F.In p (type_of at x) (map (type_of at) ys))
type_In at p x ys = ap (type_of at) (sym (rolls-In p x ys)) ∙ type_roll at (TypedExpr-F.In p x ys)

pub type_IsNull : (at : ℕ → Option DataType) (p : Polarity) (x : TypedExpr) → type_of at (e.IsNull p x) ≡ form_type at (TypedExpr-F.IsNull p (type_of at x))
type_IsNull at p x = ap (type_of at) (sym (rolls-IsNull p x)) ∙ type_roll at (TypedExpr-F.IsNull p x)

pub type_Coalesce : (at : ℕ → Option DataType) (x : TypedExpr) (ys : List TypedExpr) → type_of at (e.Coalesce x ys) ≡ form_type at (TypedExpr-F.Coalesce (type_of at x) (map (type_of at) ys))
type_Coalesce at x ys = ap (type_of at) (sym (rolls-Coalesce x ys)) ∙ type_roll at (TypedExpr-F.Coalesce x ys)
