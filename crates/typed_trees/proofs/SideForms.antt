-- Where the text literals of each form stand, by those of its operands.
use Rattle.std.proofs.Common.{◌≡◌, ℕ, ℤ, Bool, List, map, sym, ap, ◌∙◌}
use Rattle.query_trees.specs.declared.expr.BinaryOp.{BinaryOp}
use Rattle.query_trees.specs.declared.expr.Polarity.{Polarity}
use Rattle.query_trees.specs.declared.expr.Sign.{Sign}
use Rattle.typed_trees.specs.declared.kinds.Role.{Role}
use Rattle.typed_trees.specs.declared.typed.ColumnRef.{ColumnRef}
use Rattle.typed_trees.specs.declared.typed.ColumnType.{ColumnType}
use Rattle.typed_trees.specs.declared.typed.TypedExpr.{TypedExpr, roll-TypedExpr}
use Rattle.typed_trees.specs.declared.typed.TypedExpr.TheOpen.{TypedExpr-F}
use Rattle.typed_trees.specs.declared.typed.TypedExpr.TheFolds.{map-TypedExpr, fold-roll-TypedExpr}
use Rattle.typed_trees.specs.declared.typed.TypedExpr.TheVariants as e
use Rattle.typed_trees.specs.declared.typed.TypedExpr.TheVariants.{rolls-Number, rolls-Text, rolls-Date, rolls-Column, rolls-Aggregate, rolls-Signed, rolls-Not, rolls-Binary, rolls-Divide, rolls-Between, rolls-In, rolls-IsNull, rolls-Coalesce}
use Rattle.typed_trees.specs.Sides.{form_stands, stands}

pub stands_roll : (d : TypedExpr-F TypedExpr) → stands (roll-TypedExpr d) ≡ form_stands (map-TypedExpr TypedExpr (Role → Bool) stands d)
unfolding stands
stands_roll d = fold-roll-TypedExpr (Role → Bool) form_stands d

pub stands_Number : (n scale : ℕ) (role : Role) → stands (e.Number n scale) role ≡ form_stands (TypedExpr-F.Number n scale) role
stands_Number n scale role = ap (λ f. f role) (ap stands (sym (rolls-Number n scale)) ∙ stands_roll (TypedExpr-F.Number n scale))

pub stands_Text : (t : List ℕ) (role : Role) → stands (e.Text t) role ≡ form_stands (TypedExpr-F.Text t) role
stands_Text t role = ap (λ f. f role) (ap stands (sym (rolls-Text t)) ∙ stands_roll (TypedExpr-F.Text t))

pub stands_Date : (day : ℤ) (role : Role) → stands (e.Date day) role ≡ form_stands (TypedExpr-F.Date day) role
stands_Date day role = ap (λ f. f role) (ap stands (sym (rolls-Date day)) ∙ stands_roll (TypedExpr-F.Date day))

pub stands_Column : (c : ColumnRef) (type : ColumnType) (role : Role) → stands (e.Column c type) role ≡ form_stands (TypedExpr-F.Column c type) role
stands_Column c type role = ap (λ f. f role) (ap stands (sym (rolls-Column c type)) ∙ stands_roll (TypedExpr-F.Column c type))

pub stands_Aggregate : (n scale : ℕ) (role : Role) → stands (e.Aggregate n scale) role ≡ form_stands (TypedExpr-F.Aggregate n scale) role
stands_Aggregate n scale role = ap (λ f. f role) (ap stands (sym (rolls-Aggregate n scale)) ∙ stands_roll (TypedExpr-F.Aggregate n scale))

pub stands_Signed : (s : Sign) (x : TypedExpr) (role : Role) → stands (e.Signed s x) role ≡ form_stands (TypedExpr-F.Signed s (stands x)) role
stands_Signed s x role = ap (λ f. f role) (ap stands (sym (rolls-Signed s x)) ∙ stands_roll (TypedExpr-F.Signed s x))

pub stands_Not : (x : TypedExpr) (role : Role) → stands (e.Not x) role ≡ form_stands (TypedExpr-F.Not (stands x)) role
stands_Not x role = ap (λ f. f role) (ap stands (sym (rolls-Not x)) ∙ stands_roll (TypedExpr-F.Not x))

pub stands_Binary : (o : BinaryOp) (x y : TypedExpr) (role : Role) → stands (e.Binary o x y) role ≡ form_stands (TypedExpr-F.Binary o (stands x) (stands y)) role
stands_Binary o x y role = ap (λ f. f role) (ap stands (sym (rolls-Binary o x y)) ∙ stands_roll (TypedExpr-F.Binary o x y))

pub stands_Divide : (x : TypedExpr) (s : Sign) (n : ℕ) (role : Role) → stands (e.Divide x s n) role ≡ form_stands (TypedExpr-F.Divide (stands x) s n) role
stands_Divide x s n role = ap (λ f. f role) (ap stands (sym (rolls-Divide x s n)) ∙ stands_roll (TypedExpr-F.Divide x s n))

pub stands_Between : (p : Polarity) (x y z : TypedExpr) (role : Role) → stands (e.Between p x y z) role ≡ form_stands (TypedExpr-F.Between p (stands x) (stands y) (stands z)) role
stands_Between p x y z role = ap (λ f. f role) (ap stands (sym (rolls-Between p x y z)) ∙ stands_roll (TypedExpr-F.Between p x y z))

pub stands_In : (p : Polarity) (x : TypedExpr) (ys : List TypedExpr) (role : Role) → stands (e.In p x ys) role ≡ form_stands (TypedExpr-F.In p (stands x) (map stands ys)) role
stands_In p x ys role = ap (λ f. f role) (ap stands (sym (rolls-In p x ys)) ∙ stands_roll (TypedExpr-F.In p x ys))

pub stands_IsNull : (p : Polarity) (x : TypedExpr) (role : Role) → stands (e.IsNull p x) role ≡ form_stands (TypedExpr-F.IsNull p (stands x)) role
stands_IsNull p x role = ap (λ f. f role) (ap stands (sym (rolls-IsNull p x)) ∙ stands_roll (TypedExpr-F.IsNull p x))

pub stands_Coalesce : (x : TypedExpr) (ys : List TypedExpr) (role : Role) → stands (e.Coalesce x ys) role ≡ form_stands (TypedExpr-F.Coalesce (stands x) (map stands ys)) role
stands_Coalesce x ys role = ap (λ f. f role) (ap stands (sym (rolls-Coalesce x ys)) ∙ stands_roll (TypedExpr-F.Coalesce x ys))
