-- What is as the grammar has it is within the ranges of lowering, by induction over the expression.
use Rattle.std.proofs.Common.{◌≡◌, ◌∙◌, ℕ, ℤ, pos, negsuc, ◌^◌, ◌≤◌, ◌<◌, ◌==◌, Bool, true, ◌&&◌, List, [], ◌∷◌, map, refl, sym, subst, arith}
use Rattle.std.specs.List.{list_all}
use Rattle.std.proofs.lemmas.Bool.{and_from, and_parts, eqb-true, le-leb, leb-true, lt-ltb}
use Rattle.std.proofs.lemmas.Bool.Decides.{nat_tests}
use Rattle.control_vectors.specs.Slots.{fits_128}
use Rattle.civil_days.specs.Dates.{in_range}
use Rattle.sql_read.specs.declared.definition.ColumnKind.{ColumnKind}
use Rattle.sql_read.specs.declared.definition.ColumnKind.TheVariants as column
use Rattle.sql_read.specs.Lexis.{max_scale}
use Rattle.typed_trees.specs.declared.typed.TypedExpr.{TypedExpr, roll-TypedExpr}
use Rattle.typed_trees.specs.declared.typed.TypedExpr.TheOpen.{TypedExpr-F}
use Rattle.typed_trees.specs.declared.typed.TypedExpr.TheFolds.{map-TypedExpr, ind-TypedExpr}
use Rattle.typed_trees.specs.Kinds.{kind_of}
use Rattle.expr_values.specs.Written.{fits_127, kind_scale, form_written, is_written}
use Rattle.expr_values.proofs.Scales as values
use Rattle.written_queries.specs.Laws.{column_scale, form_as_written, is_as_written}
use Rattle.written_queries.proofs.WrittenForms.{written_roll}

-- ---- days and columns

most_127 : 2 ^ 127 ≡ 170141183460469231731687303715884105728
most_127 = refl

day_fits : (day : ℤ) → in_range day ≡ true → fits_128 day ≡ true
day_fits (pos n) h = lt-ltb n (2 ^ 127) (omega (arith, leb-true n 2932896 h, most_127))
day_fits (negsuc n) h =
    let low : n < 719162 = grind (arith, nat_tests, h) in
    lt-ltb n (2 ^ 127) (omega (arith, low, most_127))

none_small : (n : ℕ) → (n == 0) ≡ true → kind_scale (kind_of column.Integer) n ≡ true
none_small n h = let is : n ≡ 0 = eqb-true n 0 h in le-leb n 36 (omega arith)

column_fits : (kind : ColumnKind) (n : ℕ) → column_scale kind n ≡ true → kind_scale (kind_of kind) n ≡ true
column_fits column.Integer n h = none_small n h
column_fits column.Date n h = none_small n h
column_fits column.Text n h = h
column_fits column.Decimal n h = let is : n ≤ max_scale = leb-true n max_scale h in le-leb n 36 (omega (arith, is))

-- ---- layers

abbrev Fits : TypedExpr → Type 0
Fits e = is_as_written e ≡ true → is_written e ≡ true

by_parts : (d : TypedExpr-F TypedExpr) → (form_as_written (map-TypedExpr TypedExpr Bool is_as_written d) ≡ true → form_written (map-TypedExpr TypedExpr Bool is_written d) ≡ true) → Fits (roll-TypedExpr d)
by_parts d h is = values.written_roll d ∙ h (sym (written_roll d) ∙ is)

both : (a b c d : Bool) → (a ≡ true → c ≡ true) → (b ≡ true → d ≡ true) → (a && b) ≡ true → (c && d) ≡ true
both a b c d f g h = let x = and_parts a b h in and_from c d (f x.0) (g x.1)

abbrev Elements : Type 0
Elements = List ((e : TypedExpr) × Fits e)

abbrev exprs : Elements → List TypedExpr
exprs ys = map (λ y. y.0) ys

abbrev all_true : List Bool → Bool
all_true bs = list_all (λ (b : Bool). b) bs

all_fit : (ys : Elements) → all_true (map is_as_written (exprs ys)) ≡ true → all_true (map is_written (exprs ys)) ≡ true
all_fit [] h = refl
all_fit (y ∷ ys) h = both (is_as_written y.0) (all_true (map is_as_written (exprs ys))) (is_written y.0) (all_true (map is_written (exprs ys))) y.1 (all_fit ys) h

first_and_all : (x : (e : TypedExpr) × Fits e) (ys : Elements) → (is_as_written x.0 && all_true (map is_as_written (exprs ys))) ≡ true → (is_written x.0 && all_true (map is_written (exprs ys))) ≡ true
first_and_all x ys h = both (is_as_written x.0) (all_true (map is_as_written (exprs ys))) (is_written x.0) (all_true (map is_written (exprs ys))) x.1 (all_fit ys) h

-- ---- the induction

by_layer : (y : TypedExpr-F ((e : TypedExpr) × Fits e)) → Fits (roll-TypedExpr (map-TypedExpr ((e : TypedExpr) × Fits e) TypedExpr (λ x. x.0) y))
by_layer (TypedExpr-F.Number n scale) = by_parts (TypedExpr-F.Number n scale) (λ h. h)
by_layer (TypedExpr-F.Text t) = by_parts (TypedExpr-F.Text t) (λ h. h)
by_layer (TypedExpr-F.Date day) = by_parts (TypedExpr-F.Date day) (day_fits day)
by_layer (TypedExpr-F.Column c type) = by_parts (TypedExpr-F.Column c type) (column_fits type.kind type.scale)
by_layer (TypedExpr-F.Aggregate n scale) = by_parts (TypedExpr-F.Aggregate n scale) (λ h. h)
by_layer (TypedExpr-F.Signed s x) = by_parts (TypedExpr-F.Signed s x.0) x.1
by_layer (TypedExpr-F.Not x) = by_parts (TypedExpr-F.Not x.0) x.1
by_layer (TypedExpr-F.Binary o x y) = by_parts (TypedExpr-F.Binary o x.0 y.0) (both (is_as_written x.0) (is_as_written y.0) (is_written x.0) (is_written y.0) x.1 y.1)
by_layer (TypedExpr-F.Divide x s n) = by_parts (TypedExpr-F.Divide x.0 s n) (both (fits_127 n) (is_as_written x.0) (fits_127 n) (is_written x.0) (λ h. h) x.1)
by_layer (TypedExpr-F.Between p x y z) =
    by_parts (TypedExpr-F.Between p x.0 y.0 z.0)
    (both (is_as_written x.0) (is_as_written y.0 && is_as_written z.0) (is_written x.0) (is_written y.0 && is_written z.0) x.1 (both (is_as_written y.0) (is_as_written z.0) (is_written y.0) (is_written z.0) y.1 z.1))
by_layer (TypedExpr-F.In p x ys) = by_parts (TypedExpr-F.In p x.0 (exprs ys)) (first_and_all x ys)
by_layer (TypedExpr-F.IsNull p x) = by_parts (TypedExpr-F.IsNull p x.0) x.1
by_layer (TypedExpr-F.Coalesce x ys) = by_parts (TypedExpr-F.Coalesce x.0 (exprs ys)) (first_and_all x ys)

pub within_ranges : (e : TypedExpr) → Fits e
within_ranges = ind-TypedExpr Fits (λ x y is. subst (λ z. Fits (roll-TypedExpr z)) is (by_layer y))
