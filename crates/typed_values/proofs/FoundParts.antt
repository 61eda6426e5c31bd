-- What is found of an expression, by induction over it: its interval, where all its parts are narrow, and else none.
use Rattle.std.proofs.Common.{◌≡◌, ℕ, ◌-◌, ◌≤◌, max, ℤ, pos, ◌*ℤ◌, Bool, true, false, ◌&&◌, if◌then◌else◌, List, [], ◌∷◌, ◌++◌, map, Option, Some, None, is_some, refl, sym, ap, ◌∙◌, subst, arith}
use Rattle.std.specs.Prelude.{flat_map}
use Rattle.std.specs.Option.{option_map}
use Rattle.std.specs.List.{fold, list_all}
use Rattle.std.proofs.lemmas.Bool.Decides.{nat_tests}
use Rattle.std.proofs.lemmas.Int.{ints}
use Rattle.std.proofs.lemmas.List.Folds.{list_all-append}
use Rattle.control_vectors.specs.Slots.{fits_128}
use Rattle.query_trees.specs.declared.expr.BinaryOp.{BinaryOp}
use Rattle.query_trees.specs.declared.expr.BinaryOp.TheVariants as op
use Rattle.typed_trees.specs.declared.typed.TypedExpr.{TypedExpr, roll-TypedExpr}
use Rattle.typed_trees.specs.declared.typed.TypedExpr.TheOpen.{TypedExpr-F}
use Rattle.typed_trees.specs.declared.typed.TypedExpr.TheFolds.{map-TypedExpr, para-roll-TypedExpr, ind-TypedExpr}
use Rattle.typed_trees.specs.declared.typed.TypedExpr.TheVariants as e
use Rattle.typed_trees.specs.declared.typed.TypedExpr.TheVariants.{rolls-Number}
use Rattle.typed_trees.specs.Scales.{greatest, form_scale, scale_of}
use Rattle.typed_values.specs.declared.interval_rule.Bounded.{Bounded}
use Rattle.typed_values.specs.declared.intervals.Interval.{Interval}
use Rattle.typed_values.specs.Intervals.{truth, point, raised_interval, signed}
use Rattle.typed_values.specs.Narrow as n
use Rattle.typed_values.specs.Narrow.{Bounds, limited, at_scale, counted}
use Rattle.typed_values.specs.Bounds as rule
use Rattle.typed_values.specs.Bounds.{Ranged, ranged, range_at, hull, Part, Operand, with_itself, part_at, both_at_one_scale, form_interval, interval_of, form_below, parts_below, parts, lies_within, has_scale, is_narrow, cannot_overflow}
use Rattle.typed_trees.proofs.ScaleForms.{scale_roll, scale_Number}
use Rattle.typed_values.proofs.Found.{kept, Found, wide, narrow, Chosen, guarded, whole_narrow, found_from, part_narrow, up_to_36, rescaled_chosen}
use Rattle.typed_values.proofs.FoundForms.{number_found, date_found, column_found, signed_found, tested_found, divided_found, pair_narrow, sum_found, product_found, logic_found, comparable_found, truth_found, compared_found, hull_chosen, all_kept, no_scale}

-- whether all parts of an expression are narrow
abbrev all_narrow_in : TypedExpr → Bool
all_narrow_in x = list_all is_narrow (parts x)

abbrev IsFound : TypedExpr → Type 0
IsFound x = Found (n.bounds x) (all_narrow_in x) (scale_of x) (interval_of x)

-- ---- layers

abbrev pub bounded_part : TypedExpr → n.Operand
bounded_part x = (x, n.bounds x)

abbrev operand : TypedExpr → Operand
operand x = (x, parts_below x)

abbrev pub ranged_of : TypedExpr → Ranged
ranged_of x = record { scale = scale_of x; range = interval_of x }

pub layer_bounds : (d : TypedExpr-F TypedExpr) → n.bounds (roll-TypedExpr d) ≡ n.form_bounds (map-TypedExpr TypedExpr n.Operand bounded_part d)
unfolding n.bounds
layer_bounds d = para-roll-TypedExpr Bounds n.form_bounds d

pub layer_below : (d : TypedExpr-F TypedExpr) → parts_below (roll-TypedExpr d) ≡ form_below (map-TypedExpr TypedExpr Operand operand d)
unfolding parts_below
layer_below d = para-roll-TypedExpr (List Part) form_below d

list_ranged : (ys : List TypedExpr) → map ranged (map (λ x. (x, interval_of x)) ys) ≡ map ranged_of ys
list_ranged [] = refl
list_ranged (y ∷ ys) = ap (λ (more : List Ranged). ranged_of y ∷ more) (list_ranged ys)

interval_step : (d : TypedExpr-F TypedExpr) → interval_of (roll-TypedExpr d) ≡ form_interval (map-TypedExpr (TypedExpr × Option Interval) Ranged ranged (map-TypedExpr TypedExpr (TypedExpr × Option Interval) (λ x. (x, interval_of x)) d))
unfolding interval_of
interval_step d = para-roll-TypedExpr (Option Interval) (λ f. form_interval (map-TypedExpr (TypedExpr × Option Interval) Ranged ranged f)) d

pub layer_interval : (d : TypedExpr-F TypedExpr) → interval_of (roll-TypedExpr d) ≡ form_interval (map-TypedExpr TypedExpr Ranged ranged_of d)
layer_interval (TypedExpr-F.Coalesce x ys) = interval_step (TypedExpr-F.Coalesce x ys) ∙ ap (λ (l : List Ranged). form_interval (TypedExpr-F.Coalesce (ranged_of x) l)) (list_ranged ys)
layer_interval (TypedExpr-F.In p x ys) = interval_step (TypedExpr-F.In p x ys)
layer_interval (TypedExpr-F.Number k scale) = interval_step (TypedExpr-F.Number k scale)
layer_interval (TypedExpr-F.Text t) = interval_step (TypedExpr-F.Text t)
layer_interval (TypedExpr-F.Date day) = interval_step (TypedExpr-F.Date day)
layer_interval (TypedExpr-F.Column c type) = interval_step (TypedExpr-F.Column c type)
layer_interval (TypedExpr-F.Aggregate k scale) = interval_step (TypedExpr-F.Aggregate k scale)
layer_interval (TypedExpr-F.Signed s x) = interval_step (TypedExpr-F.Signed s x)
layer_interval (TypedExpr-F.Not x) = interval_step (TypedExpr-F.Not x)
layer_interval (TypedExpr-F.Binary o x y) = interval_step (TypedExpr-F.Binary o x y)
layer_interval (TypedExpr-F.Divide x s k) = interval_step (TypedExpr-F.Divide x s k)
layer_interval (TypedExpr-F.Between p x a b) = interval_step (TypedExpr-F.Between p x a b)
layer_interval (TypedExpr-F.IsNull p x) = interval_step (TypedExpr-F.IsNull p x)

-- ---- the parts of an expression: those below it, and it itself

times_one : (z : ℤ) → z *ℤ pos 1 ≡ z
times_one z = omega (arith, ints)

raised_by_none : (p : Option Interval) → option_map (raised_interval 0) p ≡ p
raised_by_none None = refl
raised_by_none (Some i) = (λ j. Some (record { least = times_one i.least j; greatest = times_one i.greatest j }))

one_more : (b : Bool) → (b && true) ≡ b
one_more true = refl
one_more false = refl

itself_narrow : (x : TypedExpr) → is_narrow (x, 0) ≡ whole_narrow (scale_of x) (interval_of x)
itself_narrow x = ap (λ p. has_scale (scale_of x) && lies_within p) (raised_by_none (interval_of x))

parts_narrow : (x : TypedExpr) → all_narrow_in x ≡ (list_all is_narrow (parts_below x) && whole_narrow (scale_of x) (interval_of x))
parts_narrow x = list_all-append is_narrow (parts_below x) ((x, 0) ∷ []) ∙ ap (λ b. list_all is_narrow (parts_below x) && b) (one_more (is_narrow (x, 0)) ∙ itself_narrow x)

moved : (b c : Bounds) (v w : Bool) (s t : ℕ) (p q : Option Interval) → b ≡ c → v ≡ w → s ≡ t → p ≡ q → Found c w t q → Found b v s p
moved b c v w s t p q same_b same_v same_s same_p h =
    subst (λ x. Found x v s p) (sym same_b) (subst (λ x. Found c x s p) (sym same_v) (subst (λ x. Found c w x p) (sym same_s) (subst (λ x. Found c w t x) (sym same_p) h)))

abbrev below_of : TypedExpr-F TypedExpr → Bool
below_of d = list_all is_narrow (form_below (map-TypedExpr TypedExpr Operand operand d))

abbrev scale_in : TypedExpr-F TypedExpr → ℕ
scale_in d = form_scale (map-TypedExpr TypedExpr ℕ scale_of d)

abbrev range_in : TypedExpr-F TypedExpr → Option Interval
range_in d = form_interval (map-TypedExpr TypedExpr Ranged ranged_of d)

by_parts : (d : TypedExpr-F TypedExpr) → n.form_bounds (map-TypedExpr TypedExpr n.Operand bounded_part d) ≡ guarded (below_of d) (scale_in d) (range_in d) → IsFound (roll-TypedExpr d)
by_parts d h =
    let x = roll-TypedExpr d in
    moved (n.bounds x) (n.form_bounds (map-TypedExpr TypedExpr n.Operand bounded_part d)) (all_narrow_in x) (below_of d && whole_narrow (scale_in d) (range_in d))
    (scale_of x) (scale_in d) (interval_of x) (range_in d) (layer_bounds d)
    (parts_narrow x ∙ (λ j. list_all is_narrow (layer_below d j) && whole_narrow (scale_roll d j) (layer_interval d j))) (scale_roll d) (layer_interval d)
    (found_from (n.form_bounds (map-TypedExpr TypedExpr n.Operand bounded_part d)) (below_of d) (scale_in d) (range_in d) h)

-- ---- several operands

pair_below : (x y : TypedExpr) → list_all is_narrow (both_at_one_scale (operand x) (operand y)) ≡ pair_narrow (scale_of x) (interval_of x) (scale_of y) (interval_of y)
pair_below x y = refl

two_below : (x y : TypedExpr) (more : List Part) → list_all is_narrow (parts x ++ (parts y ++ more)) ≡ (all_narrow_in x && (all_narrow_in y && list_all is_narrow more))
two_below x y more = list_all-append is_narrow (parts x) (parts y ++ more) ∙ ap (λ b. all_narrow_in x && b) (list_all-append is_narrow (parts y) more)

three_below : (x y z : TypedExpr) (more : List Part) → list_all is_narrow (parts x ++ (parts y ++ (parts z ++ more))) ≡ (all_narrow_in x && (all_narrow_in y && (all_narrow_in z && list_all is_narrow more)))
three_below x y z more = two_below x y (parts z ++ more) ∙ ap (λ b. all_narrow_in x && (all_narrow_in y && b)) (list_all-append is_narrow (parts z) more)

divide_below : (x : TypedExpr) (k : ℕ) → list_all is_narrow (parts x ++ (e.Number k 0, 0) ∷ []) ≡ (all_narrow_in x && fits_128 (pos k))
divide_below x k =
    list_all-append is_narrow (parts x) ((e.Number k 0, 0) ∷ [])
    ∙ ap (λ b. all_narrow_in x && b) (one_more (is_narrow (e.Number k 0, 0)) ∙ (itself_narrow (e.Number k 0) ∙ ((λ j. whole_narrow (scale_Number k 0 j) (number_interval j)) ∙ twice (fits_128 (pos k)))))
  where
    number_interval : interval_of (e.Number k 0) ≡ Some (point (pos k))
    number_interval = ap interval_of (sym (rolls-Number k 0)) ∙ layer_interval (TypedExpr-F.Number k 0)

    twice : (b : Bool) → (b && b) ≡ b
    twice true = refl
    twice false = refl

-- two pairs with the same first operand
paired : (x y z a b c d : Bool) → ((x && (y && (a && (b && true)))) && (x && (z && (c && (d && true))))) ≡ (x && (y && (z && (a && (b && (c && (d && true)))))))
paired false y z a b c d = refl
paired true false z a b c d = refl
paired true true false false b c d = refl
paired true true false true false c d = refl
paired true true false true true c d = refl
paired true true true false b c d = refl
paired true true true true false c d = refl
paired true true true true true c d = refl

-- ---- lists

abbrev Elements : Type 0
Elements = List ((x : TypedExpr) × IsFound x)

abbrev exprs : Elements → List TypedExpr
exprs ys = map (λ y. y.0) ys

abbrev bounds_in : Elements → List Bounds
bounds_in ys = map (λ y. y.1) (map bounded_part (exprs ys))

abbrev compared_to : TypedExpr → Elements → List Part
compared_to x ys = flat_map (λ y. with_itself y ++ both_at_one_scale (operand x) y) (map operand (exprs ys))

-- one element more, where v tells whether the first operand is there
one_compared : (v c r l : Bool) → (v && r) ≡ (v && l) → (v && ((v && c) && r)) ≡ (v && (c && l))
one_compared true c r l h = ap (λ b. c && b) h
one_compared false c r l h = refl

all_compared : (x : TypedExpr) → IsFound x → (ys : Elements) → (all_narrow_in x && list_all (n.comparable (n.bounds x)) (bounds_in ys)) ≡ (all_narrow_in x && list_all is_narrow (compared_to x ys))
all_compared x f [] = refl
all_compared x f (y ∷ ys) =
    let pair = pair_narrow (scale_of x) (interval_of x) (scale_of y.0) (interval_of y.0) in
    let rest = list_all (n.comparable (n.bounds x)) (bounds_in ys) in
    let below = list_all is_narrow (compared_to x ys) in
    ap (λ b. all_narrow_in x && (b && rest)) (comparable_found (n.bounds x) (n.bounds y.0) (all_narrow_in x) (all_narrow_in y.0) (scale_of x) (scale_of y.0) (interval_of x) (interval_of y.0) f y.1)
    ∙ (one_compared (all_narrow_in x) (all_narrow_in y.0 && pair) rest below (all_compared x f ys)
    ∙ ap (λ b. all_narrow_in x && b)
    (sym (list_all-append is_narrow (parts y.0 ++ both_at_one_scale (operand x) (operand y.0)) (compared_to x ys)
    ∙ ap (λ b. b && below) (list_all-append is_narrow (parts y.0) (both_at_one_scale (operand x) (operand y.0))))))

is_there : (b : Bounds) (v : Bool) (s : ℕ) (p : Option Interval) → Found b v s p → is_some b ≡ v
is_there b v s p (wide scale q) = refl
is_there b v s p (narrow scale i f g) = refl

in_below : (x : TypedExpr) (f : IsFound x) (ys : Elements) → n.all_comparable (n.bounds x) (bounds_in ys) ≡ list_all is_narrow (parts x ++ compared_to x ys)
in_below x f ys =
    ap (λ b. b && list_all (n.comparable (n.bounds x)) (bounds_in ys)) (is_there (n.bounds x) (all_narrow_in x) (scale_of x) (interval_of x) f)
    ∙ (all_compared x f ys ∙ sym (list_all-append is_narrow (parts x) (compared_to x ys)))

-- ---- COALESCE

abbrev at_one_scale : ℕ → List TypedExpr → List Part
at_one_scale to xs = flat_map (λ y. with_itself y ++ part_at to y ∷ []) (map operand xs)

element_below : (to : ℕ) (y : TypedExpr) → list_all is_narrow (parts y ++ part_at to (operand y) ∷ []) ≡ (all_narrow_in y && part_narrow (scale_of y) (to - scale_of y) (interval_of y))
element_below to y = list_all-append is_narrow (parts y) (part_at to (operand y) ∷ []) ∙ ap (λ b. all_narrow_in y && b) (one_more (part_narrow (scale_of y) (to - scale_of y) (interval_of y)))

and_assoc : (a b c : Bool) → ((a && b) && c) ≡ (a && (b && c))
and_assoc true b c = refl
and_assoc false b c = refl

all_chosen : (to : ℕ) → to ≤ 36 → (first : Option Interval) (v : Bool) (p : Option Interval) → Chosen first v p → (ys : Elements) →
    Chosen (fold hull first (map (at_scale to) (bounds_in ys))) (v && list_all is_narrow (at_one_scale to (exprs ys))) (fold hull p (map (range_at to) (map ranged_of (exprs ys))))
all_chosen to h first v p f [] = subst (λ b. Chosen first b p) (sym (one_more v)) f
all_chosen to h first v p f (y ∷ ys) =
    let part = part_narrow (scale_of y.0) (to - scale_of y.0) (interval_of y.0) in
    let more = list_all is_narrow (at_one_scale to (exprs ys)) in
    let same : (v && list_all is_narrow (at_one_scale to (y.0 ∷ exprs ys))) ≡ ((v && (all_narrow_in y.0 && part)) && more) =
    ap (λ b. v && b) (list_all-append is_narrow (parts y.0 ++ part_at to (operand y.0) ∷ []) (at_one_scale to (exprs ys)) ∙ ap (λ b. b && more) (element_below to y.0)) ∙ sym (and_assoc v (all_narrow_in y.0 && part) more) in
    subst (λ b. Chosen (fold hull first (map (at_scale to) (bounds_in (y ∷ ys)))) b (fold hull p (map (range_at to) (map ranged_of (exprs (y ∷ ys)))))) (sym same)
    (all_chosen to h (hull first (at_scale to (n.bounds y.0))) (v && (all_narrow_in y.0 && part)) (hull p (range_at to (ranged_of y.0)))
    (hull_chosen first (at_scale to (n.bounds y.0)) v (all_narrow_in y.0 && part) p (range_at to (ranged_of y.0)) f
    (rescaled_chosen to (n.bounds y.0) (all_narrow_in y.0) (scale_of y.0) (interval_of y.0) h y.1)) ys)

counted_whole : (to : ℕ) → to ≤ 36 → counted to ≡ to
counted_whole to h = omega arith

counted_over : (to : ℕ) → has_scale to ≡ false → has_scale (counted to) ≡ false
counted_over to e = let h : 37 ≤ to = grind (arith, nat_tests) in let most : counted to ≡ 37 = omega arith in ap has_scale most

choice_found : (to : ℕ) (x : TypedExpr) → IsFound x → (ys : Elements) →
    n.chosen_bounds (counted to) (n.bounds x) (bounds_in ys) ≡ guarded (list_all is_narrow (at_one_scale to (x ∷ exprs ys))) to (fold hull (range_at to (ranged_of x)) (map (range_at to) (map ranged_of (exprs ys))))
choice_found to x f ys = by (has_scale to) refl
  where
    below : Bool
    below = list_all is_narrow (at_one_scale to (x ∷ exprs ys))

    range : Option Interval
    range = fold hull (range_at to (ranged_of x)) (map (range_at to) (map ranged_of (exprs ys)))

    part : Bool
    part = part_narrow (scale_of x) (to - scale_of x) (interval_of x)

    none : (b : Bool) → guarded b to None ≡ None
    none true = refl
    none false = refl

    more : Bool
    more = list_all is_narrow (at_one_scale to (exprs ys))

    by : (t : Bool) → has_scale to ≡ t → n.chosen_bounds (counted to) (n.bounds x) (bounds_in ys) ≡ guarded below to range
    by true s =
        let h = up_to_36 to s in
        let same : below ≡ ((all_narrow_in x && part) && more) = list_all-append is_narrow (parts x ++ part_at to (operand x) ∷ []) (at_one_scale to (exprs ys)) ∙ ap (λ b. b && more) (element_below to x) in
        ap (λ k. n.chosen_bounds k (n.bounds x) (bounds_in ys)) (counted_whole to h)
        ∙ (all_kept to (fold hull (at_scale to (n.bounds x)) (map (at_scale to) (bounds_in ys))) ((all_narrow_in x && part) && more) range
        (all_chosen to h (at_scale to (n.bounds x)) (all_narrow_in x && part) (range_at to (ranged_of x)) (rescaled_chosen to (n.bounds x) (all_narrow_in x) (scale_of x) (interval_of x) h f) ys)
        ∙ ap (λ b. guarded b to range) (sym same))
    by false s =
        no_scale (counted to) (fold hull (at_scale (counted to) (n.bounds x)) (map (at_scale (counted to)) (bounds_in ys))) (counted_over to s)
        ∙ sym (ap (λ (b : Bounds). if below then b else None) (no_scale to (kept range) s) ∙ none below)

-- the scales of the operands, by whatever stands beside them
pub scales_beside : {X : Type 0} (f : TypedExpr → X) (ys : List TypedExpr) → map (λ (y : TypedExpr × X). scale_of y.0) (map (λ x. (x, f x)) ys) ≡ map scale_of ys
scales_beside f [] = refl
scales_beside f (y ∷ ys) = ap (λ (more : List ℕ). scale_of y ∷ more) (scales_beside f ys)

scales_ranged : (ys : List TypedExpr) → map (λ (y : Ranged). y.scale) (map ranged_of ys) ≡ map scale_of ys
scales_ranged [] = refl
scales_ranged (y ∷ ys) = ap (λ (more : List ℕ). scale_of y ∷ more) (scales_ranged ys)

coalesce_found : (x : TypedExpr) → IsFound x → (ys : Elements) →
    n.form_bounds (TypedExpr-F.Coalesce (bounded_part x) (map bounded_part (exprs ys))) ≡ guarded (below_of (TypedExpr-F.Coalesce x (exprs ys))) (scale_in (TypedExpr-F.Coalesce x (exprs ys))) (range_in (TypedExpr-F.Coalesce x (exprs ys)))
coalesce_found x f ys =
    let to = greatest (scale_of x) (map scale_of (exprs ys)) in
    ap (λ scales. n.chosen_bounds (counted (greatest (scale_of x) scales)) (n.bounds x) (bounds_in ys)) (scales_beside n.bounds (exprs ys))
    ∙ (choice_found to x f ys
    ∙ sym (λ j. guarded (list_all is_narrow (at_one_scale (greatest (scale_of x) (scales_beside parts_below (exprs ys) j)) (x ∷ exprs ys))) to
    (fold hull (range_at (greatest (scale_of x) (scales_ranged (exprs ys) j)) (ranged_of x)) (map (range_at (greatest (scale_of x) (scales_ranged (exprs ys) j))) (map ranged_of (exprs ys))))))

-- ---- the induction

abbrev first : TypedExpr-F ((x : TypedExpr) × IsFound x) → TypedExpr-F TypedExpr
first y = map-TypedExpr ((x : TypedExpr) × IsFound x) TypedExpr (λ x. x.0) y

-- two operands, where what stands below them is told apart from them
joined : (o : BinaryOp) (x y : TypedExpr) (b : Bounds) (scale : ℕ) (p : Option Interval) (more : List Part) → b ≡ guarded (all_narrow_in x && (all_narrow_in y && list_all is_narrow more)) scale p → b ≡ guarded (list_all is_narrow (parts x ++ (parts y ++ more))) scale p
joined o x y b scale p more h = h ∙ ap (λ v. guarded v scale p) (sym (two_below x y more))

binary_found : (o : BinaryOp) (x y : TypedExpr) → IsFound x → IsFound y →
    n.binary_bounds o (n.bounds x) (n.bounds y) ≡ guarded (below_of (TypedExpr-F.Binary o x y)) (scale_in (TypedExpr-F.Binary o x y)) (range_in (TypedExpr-F.Binary o x y))
binary_found op.Or x y f g = joined op.Or x y (n.binary_bounds op.Or (n.bounds x) (n.bounds y)) 0 (Some truth) [] (logic_found (n.bounds x) (n.bounds y) (all_narrow_in x) (all_narrow_in y) (scale_of x) (scale_of y) (interval_of x) (interval_of y) f g)
binary_found op.And x y f g = joined op.And x y (n.binary_bounds op.And (n.bounds x) (n.bounds y)) 0 (Some truth) [] (logic_found (n.bounds x) (n.bounds y) (all_narrow_in x) (all_narrow_in y) (scale_of x) (scale_of y) (interval_of x) (interval_of y) f g)
binary_found op.Multiply x y f g =
    joined op.Multiply x y (n.binary_bounds op.Multiply (n.bounds x) (n.bounds y)) (scale_in (TypedExpr-F.Binary op.Multiply x y)) (range_in (TypedExpr-F.Binary op.Multiply x y)) []
    (product_found (n.bounds x) (n.bounds y) (all_narrow_in x) (all_narrow_in y) (scale_of x) (scale_of y) (interval_of x) (interval_of y) f g)
binary_found op.Add x y f g =
    joined op.Add x y (n.binary_bounds op.Add (n.bounds x) (n.bounds y)) (scale_in (TypedExpr-F.Binary op.Add x y)) (range_in (TypedExpr-F.Binary op.Add x y)) (both_at_one_scale (operand x) (operand y))
    (sum_found op.Add (n.bounds x) (n.bounds y) (all_narrow_in x) (all_narrow_in y) (scale_of x) (scale_of y) (interval_of x) (interval_of y) f g)
binary_found op.Subtract x y f g =
    joined op.Subtract x y (n.binary_bounds op.Subtract (n.bounds x) (n.bounds y)) (scale_in (TypedExpr-F.Binary op.Subtract x y)) (range_in (TypedExpr-F.Binary op.Subtract x y)) (both_at_one_scale (operand x) (operand y))
    (sum_found op.Subtract (n.bounds x) (n.bounds y) (all_narrow_in x) (all_narrow_in y) (scale_of x) (scale_of y) (interval_of x) (interval_of y) f g)
binary_found o x y f g =
    joined o x y (n.binary_bounds o (n.bounds x) (n.bounds y)) 0 (Some truth) (both_at_one_scale (operand x) (operand y))
    (compared_found (n.bounds x) (n.bounds y) (all_narrow_in x) (all_narrow_in y) (scale_of x) (scale_of y) (interval_of x) (interval_of y) f g)

between_found : (x a b : TypedExpr) → IsFound x → IsFound a → IsFound b →
    n.truth_if (n.comparable (n.bounds x) (n.bounds a) && n.comparable (n.bounds x) (n.bounds b)) ≡ guarded (list_all is_narrow (parts x ++ (parts a ++ (parts b ++ (both_at_one_scale (operand x) (operand a) ++ both_at_one_scale (operand x) (operand b)))))) 0 (Some truth)
between_found x a b f g h =
    let to = part_narrow (scale_of x) (max (scale_of x) (scale_of a) - scale_of x) (interval_of x) in
    let low = part_narrow (scale_of a) (max (scale_of x) (scale_of a) - scale_of a) (interval_of a) in
    let up = part_narrow (scale_of x) (max (scale_of x) (scale_of b) - scale_of x) (interval_of x) in
    let high = part_narrow (scale_of b) (max (scale_of x) (scale_of b) - scale_of b) (interval_of b) in
    let least = comparable_found (n.bounds x) (n.bounds a) (all_narrow_in x) (all_narrow_in a) (scale_of x) (scale_of a) (interval_of x) (interval_of a) f g in
    let most = comparable_found (n.bounds x) (n.bounds b) (all_narrow_in x) (all_narrow_in b) (scale_of x) (scale_of b) (interval_of x) (interval_of b) f h in
    let more = both_at_one_scale (operand x) (operand a) ++ both_at_one_scale (operand x) (operand b) in
    (λ j. n.truth_if (least j && most j))
    ∙ (ap n.truth_if (paired (all_narrow_in x) (all_narrow_in a) (all_narrow_in b) to low up high ∙ sym (three_below x a b more))
    ∙ truth_found (list_all is_narrow (parts x ++ (parts a ++ (parts b ++ more)))))

by_layer : (y : TypedExpr-F ((x : TypedExpr) × IsFound x)) → IsFound (roll-TypedExpr (first y))
by_layer (TypedExpr-F.Number k scale) = by_parts (TypedExpr-F.Number k scale) (number_found k scale)
by_layer (TypedExpr-F.Text t) = by_parts (TypedExpr-F.Text t) refl
by_layer (TypedExpr-F.Date day) = by_parts (TypedExpr-F.Date day) (date_found day)
by_layer (TypedExpr-F.Column c type) = by_parts (TypedExpr-F.Column c type) (column_found type)
by_layer (TypedExpr-F.Aggregate k scale) = by_parts (TypedExpr-F.Aggregate k scale) refl
by_layer (TypedExpr-F.Signed s x) = by_parts (TypedExpr-F.Signed s x.0) (signed_found s (n.bounds x.0) (all_narrow_in x.0) (scale_of x.0) (interval_of x.0) x.1)
by_layer (TypedExpr-F.Not x) = by_parts (TypedExpr-F.Not x.0) (tested_found (n.bounds x.0) (all_narrow_in x.0) (scale_of x.0) (interval_of x.0) x.1)
by_layer (TypedExpr-F.Binary o x y) = by_parts (TypedExpr-F.Binary o x.0 y.0) (binary_found o x.0 y.0 x.1 y.1)
by_layer (TypedExpr-F.Divide x s k) =
    by_parts (TypedExpr-F.Divide x.0 s k)
    (divided_found s k (n.bounds x.0) (all_narrow_in x.0) (scale_of x.0) (interval_of x.0) x.1 ∙ ap (λ v. guarded v (scale_of x.0) (rule.quotient_or_none (interval_of x.0) (signed s (pos k)))) (sym (divide_below x.0 k)))
by_layer (TypedExpr-F.Between p x a b) = by_parts (TypedExpr-F.Between p x.0 a.0 b.0) (between_found x.0 a.0 b.0 x.1 a.1 b.1)
by_layer (TypedExpr-F.In p x ys) =
    by_parts (TypedExpr-F.In p x.0 (exprs ys))
    (ap n.truth_if (in_below x.0 x.1 ys) ∙ truth_found (list_all is_narrow (parts x.0 ++ compared_to x.0 ys)))
by_layer (TypedExpr-F.IsNull p x) = by_parts (TypedExpr-F.IsNull p x.0) (tested_found (n.bounds x.0) (all_narrow_in x.0) (scale_of x.0) (interval_of x.0) x.1)
by_layer (TypedExpr-F.Coalesce x ys) = by_parts (TypedExpr-F.Coalesce x.0 (exprs ys)) (coalesce_found x.0 x.1 ys)

pub bounds_found : (x : TypedExpr) → IsFound x
bounds_found = ind-TypedExpr IsFound (λ x y is. subst (λ z. IsFound (roll-TypedExpr z)) is (by_layer y))

-- an interval is found exactly where the expression cannot overflow
pub found_where_narrow : (x : TypedExpr) → is_some (n.bounds x) ≡ cannot_overflow x
found_where_narrow x = is_there (n.bounds x) (all_narrow_in x) (scale_of x) (interval_of x) (bounds_found x)

-- and it is then the interval of the expression, and its scale
abbrev interval_in : Bounds → Option Interval
interval_in (Some b) = Some b.interval
interval_in None = None

bounds_are : (b : Bounds) (v : Bool) (s : ℕ) (p : Option Interval) → Found b v s p → interval_in b ≡ (if v then p else None)
bounds_are b v s p (wide scale q) = refl
bounds_are b v s p (narrow scale i f g) = refl

pub found_bounds : (x : TypedExpr) → interval_in (n.bounds x) ≡ rule.bounds x
found_bounds x = bounds_are (n.bounds x) (all_narrow_in x) (scale_of x) (interval_of x) (bounds_found x)

pub bounds_none : (x : TypedExpr) → n.bounds x ≡ None → None ≡ rule.bounds x
bounds_none x e = sym (ap interval_in e) ∙ found_bounds x

pub bounds_some : (x : TypedExpr) (b : Bounded) → n.bounds x ≡ Some b → Some b.interval ≡ rule.bounds x
bounds_some x b e = sym (ap interval_in e) ∙ found_bounds x

abbrev scale_or : Bounds → ℕ → ℕ
scale_or (Some b) s = b.scale
scale_or None s = s

scale_is : (b : Bounds) (v : Bool) (s : ℕ) (p : Option Interval) → Found b v s p → scale_or b s ≡ s
scale_is b v s p (wide scale q) = refl
scale_is b v s p (narrow scale i f g) = refl

pub found_scale : (x : TypedExpr) (b : Bounded) → n.bounds x ≡ Some b → b.scale ≡ scale_of x
found_scale x b e = sym (ap (λ c. scale_or c (scale_of x)) e) ∙ scale_is (n.bounds x) (all_narrow_in x) (scale_of x) (interval_of x) (bounds_found x)

pub found_is_interval : (x : TypedExpr) (b : Bounded) → n.bounds x ≡ Some b → interval_of x ≡ Some b.interval
found_is_interval x b e = interval_is (n.bounds x) (all_narrow_in x) (scale_of x) (interval_of x) (bounds_found x) b e
  where
    interval_is : (c : Bounds) (v : Bool) (s : ℕ) (p : Option Interval) → Found c v s p → (b : Bounded) → c ≡ Some b → p ≡ Some b.interval
    interval_is c v s p (wide scale q) b e = cc
    interval_is c v s p (narrow scale i f g) b e = ap interval_in e
