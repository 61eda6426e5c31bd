-- The value of an expression lies in its interval, by induction over the expression.
use Rattle.std.proofs.Common.{◌≡◌, ℕ, pos, Bool, true, false, ◌&&◌, List, [], ◌∷◌, ◌++◌, map, Option, Some, None, Ok, is_some, refl, sym, ap, ◌∙◌, subst}
use Rattle.std.specs.Prelude.{flat_map}
use Rattle.std.specs.List.{fold, list_all}
use Rattle.std.proofs.lemmas.List.Folds.{list_all-append}
use Rattle.typed_trees.specs.declared.typed.ColumnRef.{ColumnRef}
use Rattle.typed_trees.specs.declared.typed.ColumnType.{ColumnType}
use Rattle.typed_trees.specs.declared.typed.TypedExpr.{TypedExpr, roll-TypedExpr}
use Rattle.typed_trees.specs.declared.typed.TypedExpr.TheOpen.{TypedExpr-F}
use Rattle.typed_trees.specs.declared.typed.TypedExpr.TheFolds.{map-TypedExpr, ind-TypedExpr}
use Rattle.typed_trees.specs.Columns.{Columns, form_columns, columns_in}
use Rattle.typed_trees.proofs.ColumnForms.{columns_roll}
use Rattle.typed_trees.specs.Scales.{greatest, scale_of}
use Rattle.typed_values.specs.declared.interval_rule.Bounded.{Bounded}
use Rattle.typed_values.specs.declared.intervals.Interval.{Interval}
use Rattle.typed_values.specs.Intervals.{interval, of_type}
use Rattle.typed_values.specs.Bounds.{hull}
use Rattle.typed_values.specs.Narrow as b
use Rattle.typed_values.specs.Narrow.{Bounds, form_bounds, bounds, counted, truth_if}
use Rattle.typed_values.proofs.Evaluations.{evaluated, value_roll}
use Rattle.typed_values.proofs.FoundParts.{bounded_part, layer_bounds, found_where_narrow, found_is_interval, found_scale}
use Rattle.sql_values.specs.Values.{Value, truth, null}
use Rattle.typed_values.specs.Values.{Valued, On, Operand, form_value, value_on_row, among, at_scale, all_valued, all_at_one_scale, opposite, by_polarity, is_null}
use Rattle.value_bounds.specs.Laws.{holds, fits, ValueLaw, NeverOver}
use Rattle.value_bounds.proofs.Forms.{HasValue, HasFree, IsBounded, IsOperand, AllHeld, and_left, and_right, limited_scale, limited_some_is, number_bounded, text_bounded, date_bounded, column_bounded, aggregate_bounded, signed_bounded, tested_bounded, opposite_is_free, null_test_free, binary_bounded, divide_bounded, between_bounded, among_none, among_more, in_bounded, fold_first, hull_right, more_held, operand_held, choice_held, counted_scale}

-- a row has no aggregate
abbrev row : (ColumnRef → Value) → On
row columns = record { column = columns; aggregate = λ n. Ok null }

abbrev IsHeld : (ColumnRef → Value) → TypedExpr → Type 0
IsHeld columns e = IsBounded (bounds e) (fits columns e) (value_on_row columns e)

-- ---- the interval, the columns and the value of a layer, put together

-- a column's number lies in the interval of its type
abbrev fits_at : (ColumnRef → Value) → ColumnRef × ColumnType → Bool
fits_at columns c = holds (of_type c.1) (columns c.0)

all_fit : (columns : ColumnRef → Value) (ys : List TypedExpr) → list_all (fits_at columns) (flat_map (λ (b : Columns). b) (map columns_in ys)) ≡ list_all (λ (f : Bool). f) (map (fits columns) ys)
all_fit columns [] = refl
all_fit columns (y ∷ ys) = list_all-append (fits_at columns) (columns_in y) (flat_map (λ (b : Columns). b) (map columns_in ys)) ∙ ap (λ b. fits columns y && b) (all_fit columns ys)

one_more : (b : Bool) → (b && true) ≡ b
one_more true = refl
one_more false = refl

-- whether a row fits a form, by whether it fits the operands
abbrev form_fits : (ColumnRef → Value) → TypedExpr-F Bool → Bool
form_fits columns (TypedExpr-F.Number n scale) = true
form_fits columns (TypedExpr-F.Text t) = true
form_fits columns (TypedExpr-F.Date day) = true
form_fits columns (TypedExpr-F.Column c type) = holds (of_type type) (columns c)
form_fits columns (TypedExpr-F.Aggregate n scale) = true
form_fits columns (TypedExpr-F.Signed s x) = x
form_fits columns (TypedExpr-F.Not x) = x
form_fits columns (TypedExpr-F.Binary o x y) = x && y
form_fits columns (TypedExpr-F.Divide x s n) = x
form_fits columns (TypedExpr-F.Between p x y z) = x && (y && z)
form_fits columns (TypedExpr-F.In p x ys) = x && list_all (λ y. y) ys
form_fits columns (TypedExpr-F.IsNull p x) = x
form_fits columns (TypedExpr-F.Coalesce x ys) = x && list_all (λ y. y) ys

parts_fit : (columns : ColumnRef → Value) (d : TypedExpr-F TypedExpr) → list_all (fits_at columns) (form_columns (map-TypedExpr TypedExpr Columns columns_in d)) ≡ form_fits columns (map-TypedExpr TypedExpr Bool (fits columns) d)
parts_fit columns (TypedExpr-F.Number n scale) = refl
parts_fit columns (TypedExpr-F.Text t) = refl
parts_fit columns (TypedExpr-F.Date day) = refl
parts_fit columns (TypedExpr-F.Column c type) = one_more (holds (of_type type) (columns c))
parts_fit columns (TypedExpr-F.Aggregate n scale) = refl
parts_fit columns (TypedExpr-F.Signed s x) = refl
parts_fit columns (TypedExpr-F.Not x) = refl
parts_fit columns (TypedExpr-F.Binary o x y) = list_all-append (fits_at columns) (columns_in x) (columns_in y)
parts_fit columns (TypedExpr-F.Divide x s n) = refl
parts_fit columns (TypedExpr-F.Between p x y z) = list_all-append (fits_at columns) (columns_in x) (columns_in y ++ columns_in z) ∙ ap (λ b. fits columns x && b) (list_all-append (fits_at columns) (columns_in y) (columns_in z))
parts_fit columns (TypedExpr-F.In p x ys) = list_all-append (fits_at columns) (columns_in x) (flat_map (λ (b : Columns). b) (map columns_in ys)) ∙ ap (λ b. fits columns x && b) (all_fit columns ys)
parts_fit columns (TypedExpr-F.IsNull p x) = refl
parts_fit columns (TypedExpr-F.Coalesce x ys) = list_all-append (fits_at columns) (columns_in x) (flat_map (λ (b : Columns). b) (map columns_in ys)) ∙ ap (λ b. fits columns x && b) (all_fit columns ys)

layer_fits : (columns : ColumnRef → Value) (d : TypedExpr-F TypedExpr) → fits columns (roll-TypedExpr d) ≡ form_fits columns (map-TypedExpr TypedExpr Bool (fits columns) d)
layer_fits columns d = ap (list_all (fits_at columns)) (columns_roll d) ∙ parts_fit columns d

same_bounded : (p q : Bounds) (f g : Bool) (r s : Valued) → p ≡ q → f ≡ g → r ≡ s → IsBounded q g s → IsBounded p f r
same_bounded p q f g r s same_p same_f same_r h a e t = subst (λ (x : Valued). HasValue a.interval x) (sym same_r) (h a (sym same_p ∙ e) (sym same_f ∙ t))

abbrev bounds_in : TypedExpr-F TypedExpr → Bounds
bounds_in d = form_bounds (map-TypedExpr TypedExpr b.Operand bounded_part d)

abbrev fits_in : (ColumnRef → Value) → TypedExpr-F TypedExpr → Bool
fits_in columns d = form_fits columns (map-TypedExpr TypedExpr Bool (fits columns) d)

abbrev value_in : (ColumnRef → Value) → TypedExpr-F TypedExpr → Valued
value_in columns d = form_value (row columns) (map-TypedExpr TypedExpr Operand (evaluated (row columns)) d)

by_parts : (columns : ColumnRef → Value) (d : TypedExpr-F TypedExpr) → IsBounded (bounds_in d) (fits_in columns d) (value_in columns d) → IsHeld columns (roll-TypedExpr d)
by_parts columns d h =
    let x = roll-TypedExpr d in
    same_bounded (bounds x) (bounds_in d) (fits columns x) (fits_in columns d) (value_on_row columns x) (value_in columns d) (layer_bounds d) (layer_fits columns d) (value_roll (row columns) d) h

operand_of : (columns : ColumnRef → Value) (x : TypedExpr) → IsHeld columns x → IsOperand (bounds x) (fits columns x) (evaluated (row columns) x)
operand_of columns x h = record { scaled = found_scale x; held = h }

-- ---- lists

some_of : (p : Bounds) → is_some p ≡ true → (a : Bounded) × (p ≡ Some a)
some_of None e = cc
some_of (Some a) e = (a, refl)

abbrev Elements : (ColumnRef → Value) → Type 0
Elements columns = List ((e : TypedExpr) × IsHeld columns e)

abbrev exprs : (columns : ColumnRef → Value) → Elements columns → List TypedExpr
exprs columns ys = map (λ y. y.0) ys

abbrev list_bounds : (columns : ColumnRef → Value) → Elements columns → List Bounds
list_bounds columns ys = map (λ (y : b.Operand). y.1) (map bounded_part (exprs columns ys))

abbrev list_fits : (columns : ColumnRef → Value) → Elements columns → Bool
list_fits columns ys = list_all (λ (f : Bool). f) (map (fits columns) (exprs columns ys))

abbrev list_values : (columns : ColumnRef → Value) → Elements columns → List Operand
list_values columns ys = map (evaluated (row columns)) (exprs columns ys)

-- IN: each element can be compared
all_among : (columns : ColumnRef → Value) (x : TypedExpr) → IsHeld columns x → (ys : Elements columns) → is_some (bounds x) ≡ true → fits columns x ≡ true →
    list_all (b.comparable (bounds x)) (list_bounds columns ys) ≡ true → list_fits columns ys ≡ true → HasFree (among (evaluated (row columns) x) (list_values columns ys))
all_among columns x h [] some f e t = among_none (bounds x) (fits columns x) (evaluated (row columns) x) (operand_of columns x h) some f
all_among columns x h (y ∷ ys) some f e t =
    let alike = b.comparable (bounds x) (bounds y.0) in
    let more = list_all (b.comparable (bounds x)) (list_bounds columns ys) in
    among_more (bounds x) (bounds y.0) (fits columns x) (fits columns y.0) (evaluated (row columns) x) (evaluated (row columns) y.0) (list_values columns ys)
    (operand_of columns x h) (operand_of columns y.0 y.1) (and_left alike more e) f (and_left (fits columns y.0) (list_fits columns ys) t)
    (all_among columns x h ys some f (and_right alike more e) (and_right (fits columns y.0) (list_fits columns ys) t))

among_held : (columns : ColumnRef → Value) (x : TypedExpr) → IsHeld columns x → (ys : Elements columns) → b.all_comparable (bounds x) (list_bounds columns ys) ≡ true → (fits columns x && list_fits columns ys) ≡ true →
    HasFree (among (evaluated (row columns) x) (list_values columns ys))
among_held columns x h ys e t =
    let more = list_all (b.comparable (bounds x)) (list_bounds columns ys) in
    all_among columns x h ys (and_left (is_some (bounds x)) more e) (and_left (fits columns x) (list_fits columns ys) t) (and_right (is_some (bounds x)) more e) (and_right (fits columns x) (list_fits columns ys) t)

-- COALESCE: each operand lies in the interval around all
all_chosen : (columns : ColumnRef → Value) (to : ℕ) (i : Interval) (p : Option Interval) (ys : Elements columns) → fold hull p (map (b.at_scale to) (list_bounds columns ys)) ≡ Some i → list_fits columns ys ≡ true →
    AllHeld i (all_valued (map (at_scale to) (list_values columns ys)))
all_chosen columns to i p [] e t = refl
all_chosen columns to i p (y ∷ ys) e t =
    let scaled = b.at_scale to (bounds y.0) in
    let both = fold_first (hull p scaled) (map (b.at_scale to) (list_bounds columns ys)) i e in
    more_held i (at_scale to (evaluated (row columns) y.0)) (map (at_scale to) (list_values columns ys))
    (operand_held to (bounds y.0) (fits columns y.0) (evaluated (row columns) y.0) i (operand_of columns y.0 y.1) (and_left (fits columns y.0) (list_fits columns ys) t) (hull_right p scaled i both))
    (all_chosen columns to i (hull p scaled) ys e (and_right (fits columns y.0) (list_fits columns ys) t))

chosen_at : (columns : ColumnRef → Value) (to : ℕ) (x : TypedExpr) → IsHeld columns x → (ys : Elements columns) (i : Interval) →
    fold hull (b.at_scale to (bounds x)) (map (b.at_scale to) (list_bounds columns ys)) ≡ Some i → (fits columns x && list_fits columns ys) ≡ true →
    AllHeld i (all_valued (map (at_scale to) (evaluated (row columns) x ∷ list_values columns ys)))
chosen_at columns to x h ys i e t =
    more_held i (at_scale to (evaluated (row columns) x)) (map (at_scale to) (list_values columns ys))
    (operand_held to (bounds x) (fits columns x) (evaluated (row columns) x) i (operand_of columns x h) (and_left (fits columns x) (list_fits columns ys) t)
    (fold_first (b.at_scale to (bounds x)) (map (b.at_scale to) (list_bounds columns ys)) i e))
    (all_chosen columns to i (b.at_scale to (bounds x)) ys e (and_right (fits columns x) (list_fits columns ys) t))

-- the greatest scale, by whatever stands beside the operands
bounded_scales : (ys : List TypedExpr) → map (λ (y : b.Operand). scale_of y.0) (map bounded_part ys) ≡ map scale_of ys
bounded_scales [] = refl
bounded_scales (y ∷ ys) = ap (λ (more : List ℕ). scale_of y ∷ more) (bounded_scales ys)

evaluated_scales : (on : On) (ys : List TypedExpr) → map (λ (y : Operand). y.scale) (map (evaluated on) ys) ≡ map scale_of ys
evaluated_scales on [] = refl
evaluated_scales on (y ∷ ys) = ap (λ (more : List ℕ). scale_of y ∷ more) (evaluated_scales on ys)

coalesce_bounded : (columns : ColumnRef → Value) (x : TypedExpr) → IsHeld columns x → (ys : Elements columns) →
    IsBounded (bounds_in (TypedExpr-F.Coalesce x (exprs columns ys))) (fits columns x && list_fits columns ys) (value_in columns (TypedExpr-F.Coalesce x (exprs columns ys)))
coalesce_bounded columns x h ys a e t =
    let to = greatest (scale_of x) (map scale_of (exprs columns ys)) in
    let found : b.chosen_bounds (counted to) (bounds x) (list_bounds columns ys) ≡ Some a = ap (λ scales. b.chosen_bounds (counted (greatest (scale_of x) scales)) (bounds x) (list_bounds columns ys)) (sym (bounded_scales (exprs columns ys))) ∙ e in
    let range = fold hull (b.at_scale (counted to) (bounds x)) (map (b.at_scale (counted to)) (list_bounds columns ys)) in
    let whole = counted_scale to (limited_scale (counted to) range a found) in
    let same : counted to ≡ greatest (scale_of x) (map (λ (y : Operand). y.scale) (list_values columns ys)) = whole ∙ ap (greatest (scale_of x)) (sym (evaluated_scales (row columns) (exprs columns ys))) in
    choice_held a.interval (all_at_one_scale (evaluated (row columns) x) (list_values columns ys))
    (subst (λ k. AllHeld a.interval (all_valued (map (at_scale k) (evaluated (row columns) x ∷ list_values columns ys)))) same
    (chosen_at columns (counted to) x h ys a.interval (limited_some_is (counted to) range a found) t))

-- ---- the induction

by_layer : (columns : ColumnRef → Value) (y : TypedExpr-F ((e : TypedExpr) × IsHeld columns e)) → IsHeld columns (roll-TypedExpr (map-TypedExpr ((e : TypedExpr) × IsHeld columns e) TypedExpr (λ x. x.0) y))
by_layer columns (TypedExpr-F.Number n scale) = by_parts columns (TypedExpr-F.Number n scale) (number_bounded n scale)
by_layer columns (TypedExpr-F.Text t) = by_parts columns (TypedExpr-F.Text t) (text_bounded t (Some (record { interval = interval (pos 0) (pos 4294967295); scale = 0 })))
by_layer columns (TypedExpr-F.Date day) = by_parts columns (TypedExpr-F.Date day) (date_bounded day)
by_layer columns (TypedExpr-F.Column c type) = by_parts columns (TypedExpr-F.Column c type) (column_bounded type (columns c))
by_layer columns (TypedExpr-F.Aggregate n scale) = by_parts columns (TypedExpr-F.Aggregate n scale) (aggregate_bounded (Ok null))
by_layer columns (TypedExpr-F.Signed s x) = by_parts columns (TypedExpr-F.Signed s x.0) (signed_bounded s (bounds x.0) (fits columns x.0) (value_on_row columns x.0) x.1)
by_layer columns (TypedExpr-F.Not x) = by_parts columns (TypedExpr-F.Not x.0) (tested_bounded opposite opposite_is_free (bounds x.0) (fits columns x.0) (value_on_row columns x.0) x.1)
by_layer columns (TypedExpr-F.Binary o x y) =
    by_parts columns (TypedExpr-F.Binary o x.0 y.0)
    (binary_bounded o (bounds x.0) (bounds y.0) (fits columns x.0) (fits columns y.0) (evaluated (row columns) x.0) (evaluated (row columns) y.0) (operand_of columns x.0 x.1) (operand_of columns y.0 y.1))
by_layer columns (TypedExpr-F.Divide x s n) = by_parts columns (TypedExpr-F.Divide x.0 s n) (divide_bounded s n (bounds x.0) (fits columns x.0) (value_on_row columns x.0) x.1)
by_layer columns (TypedExpr-F.Between o x y z) =
    by_parts columns (TypedExpr-F.Between o x.0 y.0 z.0)
    (between_bounded o (bounds x.0) (bounds y.0) (bounds z.0) (fits columns x.0) (fits columns y.0) (fits columns z.0) (evaluated (row columns) x.0) (evaluated (row columns) y.0) (evaluated (row columns) z.0)
    (operand_of columns x.0 x.1) (operand_of columns y.0 y.1) (operand_of columns z.0 z.1))
by_layer columns (TypedExpr-F.In o x ys) =
    by_parts columns (TypedExpr-F.In o x.0 (exprs columns ys))
    (in_bounded o (b.all_comparable (bounds x.0) (list_bounds columns ys)) (fits columns x.0 && list_fits columns ys) (among (evaluated (row columns) x.0) (list_values columns ys)) (among_held columns x.0 x.1 ys))
by_layer columns (TypedExpr-F.IsNull o x) =
    by_parts columns (TypedExpr-F.IsNull o x.0)
    (tested_bounded (λ v. by_polarity o (truth (is_null v))) (null_test_free o) (bounds x.0) (fits columns x.0) (value_on_row columns x.0) x.1)
by_layer columns (TypedExpr-F.Coalesce x ys) = by_parts columns (TypedExpr-F.Coalesce x.0 (exprs columns ys)) (coalesce_bounded columns x.0 x.1 ys)

held : (columns : ColumnRef → Value) (e : TypedExpr) → IsHeld columns e
held columns = ind-TypedExpr (IsHeld columns) (λ x y is. subst (λ z. IsHeld columns (roll-TypedExpr z)) is (by_layer columns y))

pub value_law : ValueLaw
value_law columns e i narrow is f =
    let found = some_of (bounds e) (found_where_narrow e ∙ narrow) in
    let same : i ≡ found.0.interval = some_is i found.0.interval (sym is ∙ found_is_interval e found.0 found.1) in
    subst (λ (j : Interval). HasValue j (value_on_row columns e)) (sym same) (held columns e found.0 found.1 f)
  where
    some_is : (i j : Interval) → Some i ≡ Some j → i ≡ j
    some_is i j e = cc

pub never_over : NeverOver
never_over columns e narrow f is =
    let found = some_of (bounds e) (found_where_narrow e ∙ narrow) in
    subst (λ (r : Valued). HasValue found.0.interval r) is (held columns e found.0 found.1 f)
