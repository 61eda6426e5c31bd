-- What each form of an expression names, by what its operands name.
use Rattle.std.proofs.Common.{◌≡◌, ℕ, ℤ, Bool, List, map, sym, ap, ◌∙◌}
use Rattle.query_trees.specs.declared.expr.BinaryOp.{BinaryOp}
use Rattle.query_trees.specs.declared.expr.Polarity.{Polarity}
use Rattle.query_trees.specs.declared.expr.Sign.{Sign}
use Rattle.typed_trees.specs.declared.typed.ColumnRef.{ColumnRef}
use Rattle.typed_trees.specs.declared.typed.ColumnType.{ColumnType}
use Rattle.typed_trees.specs.declared.typed.TypedExpr.{TypedExpr, roll-TypedExpr}
use Rattle.typed_trees.specs.declared.typed.TypedExpr.TheOpen.{TypedExpr-F}
use Rattle.typed_trees.specs.declared.typed.TypedExpr.TheFolds.{map-TypedExpr, fold-roll-TypedExpr}
use Rattle.typed_trees.specs.declared.typed.TypedExpr.TheVariants as e
use Rattle.typed_trees.specs.declared.typed.TypedExpr.TheVariants.{rolls-Number, rolls-Text, rolls-Date, rolls-Column, rolls-Aggregate, rolls-Signed, rolls-Not, rolls-Binary, rolls-Divide, rolls-Between, rolls-In, rolls-IsNull, rolls-Coalesce}
use Rattle.typed_trees.specs.Names.{form_names, names_any}

pub names_roll : (column : ColumnRef → Bool) (aggregate : ℕ → Bool) (d : TypedExpr-F TypedExpr) → names_any column aggregate (roll-TypedExpr d) ≡ form_names column aggregate (map-TypedExpr TypedExpr Bool (names_any column aggregate) d)
unfolding names_any
names_roll column aggregate d = fold-roll-TypedExpr Bool (form_names column aggregate) d

pub names_Number : (column : ColumnRef → Bool) (aggregate : ℕ → Bool) (n scale : ℕ) → names_any column aggregate (e.Number n scale) ≡ form_names column aggregate (TypedExpr-F.Number n scale)
names_Number column aggregate n scale = ap (names_any column aggregate) (sym (rolls-Number n scale)) ∙ names_roll column aggregate (TypedExpr-F.Number n scale)

pub names_Text : (column : ColumnRef → Bool) (aggregate : ℕ → Bool) (t : List ℕ) → names_any column aggregate (e.Text t) ≡ form_names column aggregate (TypedExpr-F.Text t)
names_Text column aggregate t = ap (names_any column aggregate) (sym (rolls-Text t)) ∙ names_roll column aggregate (TypedExpr-F.Text t)

pub names_Date : (column : ColumnRef → Bool) (aggregate : ℕ → Bool) (day : ℤ) → names_any column aggregate (e.Date day) ≡ form_names column aggregate (TypedExpr-F.Date day)
names_Date column aggregate day = ap (names_any column aggregate) (sym (rolls-Date day)) ∙ names_roll column aggregate (TypedExpr-F.Date day)

pub names_Column : (column : ColumnRef → Bool) (aggregate : ℕ → Bool) (c : ColumnRef) (type : ColumnType) → names_any column aggregate (e.Column c type) ≡ form_names column aggregate (TypedExpr-F.Column c type)
names_Column column aggregate c type = ap (names_any column aggregate) (sym (rolls-Column c type)) ∙ names_roll column aggregate (TypedExpr-F.Column c type)

pub names_Aggregate : (column : ColumnRef → Bool) (aggregate : ℕ → Bool) (n scale : ℕ) → names_any column aggregate (e.Aggregate n scale) ≡ form_names column aggregate (TypedExpr-F.Aggregate n scale)
names_Aggregate column aggregate n scale = ap (names_any column aggregate) (sym (rolls-Aggregate n scale)) ∙ names_roll column aggregate (TypedExpr-F.Aggregate n scale)

pub names_Signed : (column : ColumnRef → Bool) (aggregate : ℕ → Bool) (s : Sign) (x : TypedExpr) → names_any column aggregate (e.Signed s x) ≡ form_names column aggregate (TypedExpr-F.Signed s (names_any column aggregate x))
names_Signed column aggregate s x = ap (names_any column aggregate) (sym (rolls-Signed s x)) ∙ names_roll column aggregate (TypedExpr-F.Signed s x)

pub names_Not : (column : ColumnRef → Bool) (aggregate : ℕ → Bool) (x : TypedExpr) → names_any column aggregate (e.Not x) ≡ form_names column aggregate (TypedExpr-F.Not (names_any column aggregate x))
names_Not column aggregate x = ap (names_any column aggregate) (sym (rolls-Not x)) ∙ names_roll column aggregate (TypedExpr-F.Not x)

pub names_Binary : (column : ColumnRef → Bool) (aggregate : ℕ → Bool) (o : BinaryOp) (x y : TypedExpr) → names_any column aggregate (e.Binary o x y) ≡ form_names column aggregate (TypedExpr-F.Binary o (names_any column aggregate x) (names_any column aggregate y))
names_Binary column aggregate o x y = ap (names_any column aggregate) (sym (rolls-Binary o x y)) ∙ names_roll column aggregate (TypedExpr-F.Binary o x y)

pub names_Divide : (column : ColumnRef → Bool) (aggregate : ℕ → Bool) (x : TypedExpr) (s : Sign) (n : ℕ) → names_any column aggregate (e.Divide x s n) ≡ form_names column aggregate (TypedExpr-F.Divide (names_any column aggregate x) s n)
names_Divide column aggregate x s n = ap (names_any column aggregate) (sym (rolls-Divide x s n)) ∙ names_roll column aggregate (TypedExpr-F.Divide x s n)

pub names_Between : (column : ColumnRef → Bool) (aggregate : ℕ → Bool) (p : Polarity) (x y z : TypedExpr) → names_any column aggregate (e.Between p x y z) ≡ form_names column aggregate (TypedExpr-F.Between p (names_any column aggregate x) (names_any column aggregate y) (names_any column aggregate z))
names_Between column aggregate p x y z = ap (names_any column aggregate) (sym (rolls-Between p x y z)) ∙ names_roll column aggregate (TypedExpr-F.Between p x y z)

pub names_In : (column : ColumnRef → Bool) (aggregate : ℕ → Bool) (p : Polarity) (x : TypedExpr) (ys : List TypedExpr) → names_any column aggregate (e.In p x ys) ≡ form_names column aggregate (TypedExpr-F.In p (names_any column aggregate x) (map (names_any column aggregate) ys))
names_In column aggregate p x ys = ap (names_any column aggregate) (sym (rolls-In p x ys)) ∙ names_roll column aggregate (TypedExpr-F.In p x ys)

pub names_IsNull : (column : ColumnRef → Bool) (aggregate : ℕ → Bool) (p : Polarity) (x : TypedExpr) → names_any column aggregate (e.IsNull p x) ≡ form_names column aggregate (TypedExpr-F.IsNull p (names_any column aggregate x))
names_IsNull column aggregate p x = ap (names_any column aggregate) (sym (rolls-IsNull p x)) ∙ names_roll column aggregate (TypedExpr-F.IsNull p x)

pub names_Coalesce : (column : ColumnRef → Bool) (aggregate : ℕ → Bool) (x : TypedExpr) (ys : List TypedExpr) → names_any column aggregate (e.Coalesce x ys) ≡ form_names column aggregate (TypedExpr-F.Coalesce (names_any column aggregate x) (map (names_any column aggregate) ys))
names_Coalesce column aggregate x ys = ap (names_any column aggregate) (sym (rolls-Coalesce x ys)) ∙ names_roll column aggregate (TypedExpr-F.Coalesce x ys)
