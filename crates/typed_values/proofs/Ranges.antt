-- The interval of each form of an expression, by those of its operands, and its parts; and intervals, worked out by these.
use Rattle.std.proofs.Common.{◌≡◌, ℕ, ℤ, Bool, ◌&&◌, List, [], ◌∷◌, map, Option, is_some, refl, sym, ap, ◌∙◌}
use Rattle.std.specs.List.{fold, list_all}
use Rattle.query_trees.specs.declared.expr.BinaryOp.{BinaryOp}
use Rattle.query_trees.specs.declared.expr.Polarity.{Polarity}
use Rattle.query_trees.specs.declared.expr.Sign.{Sign}
use Rattle.typed_trees.specs.declared.typed.ColumnRef.{ColumnRef}
use Rattle.typed_trees.specs.declared.typed.ColumnType.{ColumnType}
use Rattle.typed_trees.specs.declared.typed.TypedExpr.{TypedExpr}
use Rattle.typed_trees.specs.declared.typed.TypedExpr.TheOpen.{TypedExpr-F}
use Rattle.typed_trees.specs.declared.typed.TypedExpr.TheVariants as e
use Rattle.typed_trees.specs.declared.typed.TypedExpr.TheVariants.{rolls-Number, rolls-Text, rolls-Date, rolls-Column, rolls-Aggregate, rolls-Signed, rolls-Not, rolls-Binary, rolls-Divide, rolls-Between, rolls-In, rolls-IsNull, rolls-Coalesce}
use Rattle.typed_trees.specs.Scales.{greatest, scale_of}
use Rattle.typed_values.specs.declared.intervals.Interval.{Interval}
use Rattle.typed_values.specs.Narrow.{Bounds, Operand, form_bounds, bounds, truth_if, comparable, at_scale, limited, chosen_bounds, counted}
use Rattle.typed_values.specs.Bounds.{form_interval, interval_of, hull, cannot_overflow}
use Rattle.typed_values.specs.BoundExamples.{bounded, scaled, IntervalTable, ScaledIntervalTable, NarrowTable, ScaledNarrowTable}
use Rattle.typed_trees.proofs.ScaleForms.{scale_Number, scale_Column, scale_Aggregate, scale_Signed, scale_Binary}
use Rattle.typed_values.proofs.Counted.{greatest_counted}
use Rattle.typed_values.proofs.FoundParts.{bounded_part, ranged_of, layer_interval, layer_bounds, scales_beside, found_where_narrow}

pub interval_Number : (n scale : ℕ) → interval_of (e.Number n scale) ≡ form_interval (TypedExpr-F.Number n scale)
interval_Number n scale = ap interval_of (sym (rolls-Number n scale)) ∙ layer_interval (TypedExpr-F.Number n scale)

pub interval_Text : (t : List ℕ) → interval_of (e.Text t) ≡ form_interval (TypedExpr-F.Text t)
interval_Text t = ap interval_of (sym (rolls-Text t)) ∙ layer_interval (TypedExpr-F.Text t)

pub interval_Date : (day : ℤ) → interval_of (e.Date day) ≡ form_interval (TypedExpr-F.Date day)
interval_Date day = ap interval_of (sym (rolls-Date day)) ∙ layer_interval (TypedExpr-F.Date day)

pub interval_Column : (c : ColumnRef) (type : ColumnType) → interval_of (e.Column c type) ≡ form_interval (TypedExpr-F.Column c type)
interval_Column c type = ap interval_of (sym (rolls-Column c type)) ∙ layer_interval (TypedExpr-F.Column c type)

pub interval_Aggregate : (n scale : ℕ) → interval_of (e.Aggregate n scale) ≡ form_interval (TypedExpr-F.Aggregate n scale)
interval_Aggregate n scale = ap interval_of (sym (rolls-Aggregate n scale)) ∙ layer_interval (TypedExpr-F.Aggregate n scale)

pub interval_Signed : (s : Sign) (x : TypedExpr) → interval_of (e.Signed s x) ≡ form_interval (TypedExpr-F.Signed s (ranged_of x))
interval_Signed s x = ap interval_of (sym (rolls-Signed s x)) ∙ layer_interval (TypedExpr-F.Signed s x)

pub interval_Not : (x : TypedExpr) → interval_of (e.Not x) ≡ form_interval (TypedExpr-F.Not (ranged_of x))
interval_Not x = ap interval_of (sym (rolls-Not x)) ∙ layer_interval (TypedExpr-F.Not x)

pub interval_Binary : (o : BinaryOp) (x y : TypedExpr) → interval_of (e.Binary o x y) ≡ form_interval (TypedExpr-F.Binary o (ranged_of x) (ranged_of y))
interval_Binary o x y = ap interval_of (sym (rolls-Binary o x y)) ∙ layer_interval (TypedExpr-F.Binary o x y)

pub interval_Divide : (x : TypedExpr) (s : Sign) (n : ℕ) → interval_of (e.Divide x s n) ≡ form_interval (TypedExpr-F.Divide (ranged_of x) s n)
interval_Divide x s n = ap interval_of (sym (rolls-Divide x s n)) ∙ layer_interval (TypedExpr-F.Divide x s n)

pub interval_Between : (p : Polarity) (x y z : TypedExpr) → interval_of (e.Between p x y z) ≡ form_interval (TypedExpr-F.Between p (ranged_of x) (ranged_of y) (ranged_of z))
interval_Between p x y z = ap interval_of (sym (rolls-Between p x y z)) ∙ layer_interval (TypedExpr-F.Between p x y z)

pub interval_In : (p : Polarity) (x : TypedExpr) (ys : List TypedExpr) → interval_of (e.In p x ys) ≡ form_interval (TypedExpr-F.In p (ranged_of x) (map ranged_of ys))
interval_In p x ys = ap interval_of (sym (rolls-In p x ys)) ∙ layer_interval (TypedExpr-F.In p x ys)

pub interval_IsNull : (p : Polarity) (x : TypedExpr) → interval_of (e.IsNull p x) ≡ form_interval (TypedExpr-F.IsNull p (ranged_of x))
interval_IsNull p x = ap interval_of (sym (rolls-IsNull p x)) ∙ layer_interval (TypedExpr-F.IsNull p x)

pub interval_Coalesce : (x : TypedExpr) (ys : List TypedExpr) → interval_of (e.Coalesce x ys) ≡ form_interval (TypedExpr-F.Coalesce (ranged_of x) (map ranged_of ys))
interval_Coalesce x ys = ap interval_of (sym (rolls-Coalesce x ys)) ∙ layer_interval (TypedExpr-F.Coalesce x ys)

pub bounds_Number : (n scale : ℕ) → bounds (e.Number n scale) ≡ form_bounds (TypedExpr-F.Number n scale)
bounds_Number n scale = ap bounds (sym (rolls-Number n scale)) ∙ layer_bounds (TypedExpr-F.Number n scale)

pub bounds_Text : (t : List ℕ) → bounds (e.Text t) ≡ form_bounds (TypedExpr-F.Text t)
bounds_Text t = ap bounds (sym (rolls-Text t)) ∙ layer_bounds (TypedExpr-F.Text t)

pub bounds_Date : (day : ℤ) → bounds (e.Date day) ≡ form_bounds (TypedExpr-F.Date day)
bounds_Date day = ap bounds (sym (rolls-Date day)) ∙ layer_bounds (TypedExpr-F.Date day)

pub bounds_Column : (c : ColumnRef) (type : ColumnType) → bounds (e.Column c type) ≡ form_bounds (TypedExpr-F.Column c type)
bounds_Column c type = ap bounds (sym (rolls-Column c type)) ∙ layer_bounds (TypedExpr-F.Column c type)

pub bounds_Aggregate : (n scale : ℕ) → bounds (e.Aggregate n scale) ≡ form_bounds (TypedExpr-F.Aggregate n scale)
bounds_Aggregate n scale = ap bounds (sym (rolls-Aggregate n scale)) ∙ layer_bounds (TypedExpr-F.Aggregate n scale)

pub bounds_Signed : (s : Sign) (x : TypedExpr) → bounds (e.Signed s x) ≡ form_bounds (TypedExpr-F.Signed s (bounded_part x))
bounds_Signed s x = ap bounds (sym (rolls-Signed s x)) ∙ layer_bounds (TypedExpr-F.Signed s x)

pub bounds_Not : (x : TypedExpr) → bounds (e.Not x) ≡ form_bounds (TypedExpr-F.Not (bounded_part x))
bounds_Not x = ap bounds (sym (rolls-Not x)) ∙ layer_bounds (TypedExpr-F.Not x)

pub bounds_Binary : (o : BinaryOp) (x y : TypedExpr) → bounds (e.Binary o x y) ≡ form_bounds (TypedExpr-F.Binary o (bounded_part x) (bounded_part y))
bounds_Binary o x y = ap bounds (sym (rolls-Binary o x y)) ∙ layer_bounds (TypedExpr-F.Binary o x y)

pub bounds_Divide : (x : TypedExpr) (s : Sign) (n : ℕ) → bounds (e.Divide x s n) ≡ form_bounds (TypedExpr-F.Divide (bounded_part x) s n)
bounds_Divide x s n = ap bounds (sym (rolls-Divide x s n)) ∙ layer_bounds (TypedExpr-F.Divide x s n)

pub bounds_Between : (p : Polarity) (x y z : TypedExpr) → bounds (e.Between p x y z) ≡ form_bounds (TypedExpr-F.Between p (bounded_part x) (bounded_part y) (bounded_part z))
bounds_Between p x y z = ap bounds (sym (rolls-Between p x y z)) ∙ layer_bounds (TypedExpr-F.Between p x y z)

pub bounds_In : (p : Polarity) (x : TypedExpr) (ys : List TypedExpr) → bounds (e.In p x ys) ≡ form_bounds (TypedExpr-F.In p (bounded_part x) (map bounded_part ys))
bounds_In p x ys = ap bounds (sym (rolls-In p x ys)) ∙ layer_bounds (TypedExpr-F.In p x ys)

pub bounds_IsNull : (p : Polarity) (x : TypedExpr) → bounds (e.IsNull p x) ≡ form_bounds (TypedExpr-F.IsNull p (bounded_part x))
bounds_IsNull p x = ap bounds (sym (rolls-IsNull p x)) ∙ layer_bounds (TypedExpr-F.IsNull p x)

pub bounds_Coalesce : (x : TypedExpr) (ys : List TypedExpr) → bounds (e.Coalesce x ys) ≡ form_bounds (TypedExpr-F.Coalesce (bounded_part x) (map bounded_part ys))
bounds_Coalesce x ys = ap bounds (sym (rolls-Coalesce x ys)) ∙ layer_bounds (TypedExpr-F.Coalesce x ys)

-- the forms without a list, for the code that goes over them
pub ruleset bounds_forms = (bounds_Number, bounds_Text, bounds_Date, bounds_Column, bounds_Aggregate, bounds_Signed, bounds_Not, bounds_Binary, bounds_Divide, bounds_Between, bounds_IsNull)

-- and those with one, where the bounds of its elements are asked one by one
comparable_list : (x : Bounds) (ys : List TypedExpr) → list_all (comparable x) (map (λ (y : Operand). y.1) (map bounded_part ys)) ≡ list_all (λ y. comparable x (bounds y)) ys
comparable_list x [] = refl
comparable_list x (y ∷ ys) = ap (λ b. comparable x (bounds y) && b) (comparable_list x ys)

pub in_bounds : (c : TypedExpr) (p : Polarity) (x : TypedExpr) (ys : List TypedExpr) → c ≡ e.In p x ys → bounds c ≡ truth_if (is_some (bounds x) && list_all (λ y. comparable (bounds x) (bounds y)) ys)
in_bounds c p x ys is = ap bounds is ∙ (bounds_In p x ys ∙ ap (λ b. truth_if (is_some (bounds x) && b)) (comparable_list (bounds x) ys))

scaled_list : (to : ℕ) (ys : List TypedExpr) → map (at_scale to) (map (λ (y : Operand). y.1) (map bounded_part ys)) ≡ map (λ y. at_scale to (bounds y)) ys
scaled_list to [] = refl
scaled_list to (y ∷ ys) = ap (λ (more : List (Option Interval)). at_scale to (bounds y) ∷ more) (scaled_list to ys)

pub chosen_bounds_are : (c x : TypedExpr) (ys : List TypedExpr) (s to : ℕ) → c ≡ e.Coalesce x ys → s ≡ counted (scale_of x) → to ≡ counted (greatest s (map scale_of ys)) →
    bounds c ≡ limited to (fold hull (at_scale to (bounds x)) (map (λ y. at_scale to (bounds y)) ys))
chosen_bounds_are c x ys s to is scale_is to_is =
    let most : to ≡ counted (greatest (scale_of x) (map scale_of ys)) = to_is ∙ (ap (λ t. counted (greatest t (map scale_of ys))) scale_is ∙ sym (greatest_counted (scale_of x) (map scale_of ys))) in
    ap bounds is ∙ (bounds_Coalesce x ys
    ∙ (ap (λ k. chosen_bounds k (bounds x) (map (λ (y : Operand). y.1) (map bounded_part ys))) (ap (λ scales. counted (greatest (scale_of x) scales)) (scales_beside bounds ys) ∙ sym most)
    ∙ ap (λ (l : List (Option Interval)). limited to (fold hull (at_scale to (bounds x)) l)) (scaled_list to ys)))

pub intervals : IntervalTable
intervals = simp (interval_Number, interval_Column, interval_Aggregate, interval_Signed, interval_Not, interval_Binary, interval_Divide, interval_In, scale_Number, scale_Column, scale_Signed, scale_Aggregate) refl

pub scaled_intervals : ScaledIntervalTable
scaled_intervals = simp (interval_Number, interval_Column, interval_Binary, interval_Between, interval_In, interval_IsNull, interval_Coalesce, scale_Column, scale_Binary) refl

rows : (rs : List (TypedExpr × Option Interval × Bool)) → map (λ r. cannot_overflow r.0) rs ≡ map (λ r. is_some (bounds r.0)) rs
rows [] = refl
rows (r ∷ rs) = (λ i. sym (found_where_narrow r.0) i ∷ rows rs i)

pub narrow : NarrowTable
narrow = rows bounded ∙ simp (bounds_Number, bounds_Column, bounds_Aggregate, bounds_Signed, bounds_Not, bounds_Binary, bounds_Divide, bounds_In) refl

pub scaled_narrow : ScaledNarrowTable
scaled_narrow = rows scaled ∙ simp (bounds_Number, bounds_Column, bounds_Binary, bounds_Between, bounds_In, bounds_IsNull, bounds_Coalesce, scale_Column, scale_Binary) refl
