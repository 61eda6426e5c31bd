-- A typed expression's value is of its kind: by induction over the expression.
use Rattle.std.proofs.Common.{◌≡◌, ℕ, zero, suc, ◌-◌, ◌==◌, max, ℤ, pos, int_div, Bool, true, false, not, ◌&&◌, if◌then◌else◌, List, [], ◌∷◌, ◌++◌, map, Option, Some, None, Result, Ok, Err, IfOk, refl, sym, ap, ◌∙◌, subst}
use Rattle.std.specs.Prelude.{flat_map}
use Rattle.std.specs.Bool.{then_some}
use Rattle.std.specs.Option.{option_and_then}
use Rattle.std.specs.List.{list_all}
use Rattle.control_vectors.specs.declared.Over.{Over}
use Rattle.control_vectors.specs.Slots.{fits_128}
use Rattle.sql_values.specs.Values.{Value, number, text, truth, null}
use Rattle.query_trees.specs.declared.expr.BinaryOp.{BinaryOp}
use Rattle.query_trees.specs.declared.expr.BinaryOp.TheVariants as op
use Rattle.query_trees.specs.declared.expr.Polarity.{Polarity}
use Rattle.query_trees.specs.declared.expr.Polarity.TheVariants.{Plain, Negated}
use Rattle.query_trees.specs.declared.expr.Sign.{Sign}
use Rattle.typed_trees.specs.declared.kinds.Kind.{Kind}
use Rattle.typed_trees.specs.declared.kinds.Kind.TheVariants.{Number, Date, Text, Truth}
use Rattle.typed_trees.specs.declared.typed.ColumnRef.{ColumnRef}
use Rattle.typed_trees.specs.declared.typed.ColumnType.{ColumnType}
use Rattle.typed_trees.specs.declared.typed.TypedExpr.{TypedExpr, roll-TypedExpr}
use Rattle.typed_trees.specs.declared.typed.TypedExpr.TheOpen.{TypedExpr-F}
use Rattle.typed_trees.specs.declared.typed.TypedExpr.TheFolds.{map-TypedExpr, ind-TypedExpr}
use Rattle.typed_trees.specs.Columns.{Columns, form_columns, columns_in}
use Rattle.typed_trees.specs.Kinds.{kind_of, is_number, is_truth, same_kind, family_of, makes, takes}
use Rattle.typed_trees.specs.Types.{DataType, typed_as, truth as truth_type, form_type, type_of, column_type, number_type, not_type, scale_fits, binary_type, compares_with, tested_type, null_test_type, choice_type, with_types, all_types}
use Rattle.typed_trees.specs.Scales.{greatest, binary_scale, scale_of}
use Rattle.typed_values.specs.Intervals.{raised, signed, combined}
use Rattle.std.proofs.lemmas.List.Folds.{list_all-append}
use Rattle.typed_trees.proofs.ColumnForms.{columns_roll}
use Rattle.typed_trees.proofs.TypeForms.{type_roll}
use Rattle.typed_trees.proofs.Inversions.{some_same, passed, chosen, first_typed}
use Rattle.typed_values.specs.Values.{Valued, On, Operand, with, with_both, or_over, exact, arithmetic, signed_value, quotient_value, comparison, both, opposite, either, by_polarity, is_null, first_there, rescaled, at_scale, all_at_one_scale, compared, between, among, binary_value, more_valued, all_valued, form_value, value}
use Rattle.typed_values.proofs.Evaluations.{evaluated, value_roll}
use Rattle.value_laws.specs.Laws.{is_of, IsOf, KindLaw}

-- ---- numbers and truths, of whatever operands

then_of : (k : Kind) (r : Valued) (f : Value → Valued) → ((v : Value) → IsOf k (f v)) → IsOf k (with r f)
then_of k (Ok v) f h = h v
then_of k (Err x) f h = tt

both_of : (k : Kind) (r s : Valued) (f : Value → Value → Valued) → ((v w : Value) → IsOf k (f v w)) → IsOf k (with_both r s f)
both_of k r s f h = then_of k r (λ v. with s (f v)) (λ v. then_of k s (f v) (h v))

exact_of : (z : ℤ) → IsOf Number (exact z)
exact_of z = by (fits_128 z)
  where
    by : (t : Bool) → IsOf Number (or_over (if t then Some z else None))
    by true = refl
    by false = tt

arithmetic_of : (f : ℤ → ℤ → ℤ) (v w : Value) → IsOf Number (arithmetic f v w)
arithmetic_of f (number x) (number y) = exact_of (f x y)
arithmetic_of f (number x) (text t) = refl
arithmetic_of f (number x) (truth t) = refl
arithmetic_of f (number x) null = refl
arithmetic_of f (text t) w = refl
arithmetic_of f (truth t) w = refl
arithmetic_of f null w = refl

signed_of : (s : Sign) (v : Value) → IsOf Number (signed_value s v)
signed_of s (number x) = exact_of (signed s x)
signed_of s (text t) = refl
signed_of s (truth t) = refl
signed_of s null = refl

quotient_of : (s : Sign) (n : ℕ) (v : Value) → IsOf Number (quotient_value v s n)
quotient_of s n (number x) = exact_of (int_div x (signed s (pos n)))
quotient_of s n (text t) = refl
quotient_of s n (truth t) = refl
quotient_of s n null = refl

opposite_of : (v : Value) → is_of Truth (opposite v) ≡ true
opposite_of (truth b) = refl
opposite_of (number z) = refl
opposite_of (text t) = refl
opposite_of null = refl

polarity_of : (p : Polarity) (v : Value) → is_of Truth v ≡ true → is_of Truth (by_polarity p v) ≡ true
polarity_of Plain v h = h
polarity_of Negated v h = opposite_of v

conjunction_of : (v w : Value) → is_of Truth (both v w) ≡ true
conjunction_of (truth false) w = refl
conjunction_of (truth true) (truth false) = refl
conjunction_of (truth true) (truth true) = refl
conjunction_of v (truth false) = refl
conjunction_of v (truth true) = refl
conjunction_of v w = refl

disjunction_of : (v w : Value) → is_of Truth (either v w) ≡ true
disjunction_of v w = opposite_of (both (opposite v) (opposite w))

comparison_of : (o : BinaryOp) (v w : Value) → is_of Truth (comparison o v w) ≡ true
comparison_of o null w = refl
comparison_of o v null = refl
comparison_of o v w = refl

compared_of : (o : BinaryOp) (x y : Operand) → IsOf Truth (compared o x y)
compared_of o x y = both_of Truth (at_scale (max x.scale y.scale) x) (at_scale (max x.scale y.scale) y) (λ v w. Ok (comparison o v w)) (comparison_of o)

binary_of : (o : BinaryOp) (x y : Operand) → IsOf (makes (family_of o)) (binary_value o x y)
binary_of op.Or x y = both_of Truth x.value y.value (λ v w. Ok (either v w)) disjunction_of
binary_of op.And x y = both_of Truth x.value y.value (λ v w. Ok (both v w)) conjunction_of
binary_of op.Add x y = both_of Number (at_scale (max x.scale y.scale) x) (at_scale (max x.scale y.scale) y) (arithmetic (combined op.Add)) (arithmetic_of (combined op.Add))
binary_of op.Subtract x y = both_of Number (at_scale (max x.scale y.scale) x) (at_scale (max x.scale y.scale) y) (arithmetic (combined op.Subtract)) (arithmetic_of (combined op.Subtract))
binary_of op.Multiply x y = both_of Number x.value y.value (arithmetic (combined op.Multiply)) (arithmetic_of (combined op.Multiply))
binary_of op.Equal x y = compared_of op.Equal x y
binary_of op.Differs x y = compared_of op.Differs x y
binary_of op.Less x y = compared_of op.Less x y
binary_of op.LessEqual x y = compared_of op.LessEqual x y
binary_of op.Greater x y = compared_of op.Greater x y
binary_of op.GreaterEqual x y = compared_of op.GreaterEqual x y

-- a truth, and its negation
tested_of : (p : Polarity) (r : Valued) → IsOf Truth r → IsOf Truth (with r (λ v. Ok (by_polarity p v)))
tested_of p (Ok v) h = polarity_of p v h
tested_of p (Err x) h = tt

between_of : (x a b : Operand) → IsOf Truth (between x a b)
between_of x a b = both_of Truth (compared op.GreaterEqual x a) (compared op.LessEqual x b) (λ v w. Ok (both v w)) conjunction_of

among_of : (x : Operand) (ys : List Operand) → IsOf Truth (among x ys)
among_of x [] = then_of Truth x.value (λ v. Ok (truth false)) (λ v. refl)
among_of x (y ∷ ys) = both_of Truth (compared op.Equal x y) (among x ys) (λ v w. Ok (either v w)) disjunction_of

-- ---- kinds that are one

same_is : (a b : Kind) → same_kind a b ≡ true → a ≡ b
same_is Number Number e = refl
same_is Date Date e = refl
same_is Text Text e = refl
same_is Truth Truth e = refl
same_is Number Date e = absurd (cc)
same_is Number Text e = absurd (cc)
same_is Number Truth e = absurd (cc)
same_is Date Number e = absurd (cc)
same_is Date Text e = absurd (cc)
same_is Date Truth e = absurd (cc)
same_is Text Number e = absurd (cc)
same_is Text Date e = absurd (cc)
same_is Text Truth e = absurd (cc)
same_is Truth Number e = absurd (cc)
same_is Truth Date e = absurd (cc)
same_is Truth Text e = absurd (cc)

number_is : (k : Kind) → is_number k ≡ true → Number ≡ k
number_is Number e = refl
number_is Date e = absurd (cc)
number_is Text e = absurd (cc)
number_is Truth e = absurd (cc)

and_left : (x y : Bool) → (x && y) ≡ true → x ≡ true
and_left true y e = refl
and_left false y e = cc

and_right : (x y : Bool) → (x && y) ≡ true → y ≡ true
and_right true y e = e
and_right false y e = cc

as_kind : (k l : Kind) (r : Valued) → k ≡ l → IsOf k r → IsOf l r
as_kind k l r e h = subst (λ (m : Kind). IsOf m r) e h

-- ---- COALESCE

rescaled_of : (k : Kind) (n : ℕ) (v : Value) → is_of k v ≡ true → IsOf k (rescaled n v)
rescaled_of k zero v h = h
rescaled_of Number (suc n) (number z) h = exact_of (raised (suc n) z)
rescaled_of Date (suc n) (number z) h = dated (exact (raised (suc n) z)) (exact_of (raised (suc n) z))
  where
    dated : (r : Valued) → IsOf Number r → IsOf Date r
    dated (Ok (number z)) h = refl
    dated (Ok (text t)) h = h
    dated (Ok (truth b)) h = h
    dated (Ok null) h = refl
    dated (Err x) h = tt
rescaled_of Text (suc n) (number z) h = absurd (cc)
rescaled_of Truth (suc n) (number z) h = absurd (cc)
rescaled_of k (suc n) (text t) h = h
rescaled_of k (suc n) (truth b) h = h
rescaled_of k (suc n) null h = h

scaled_of : (k : Kind) (to : ℕ) (x : Operand) → IsOf k x.value → IsOf k (at_scale to x)
scaled_of k to x h = by x.value h
  where
    by : (r : Valued) → IsOf k r → IsOf k (with r (rescaled (to - x.scale)))
    by (Ok v) h = rescaled_of k (to - x.scale) v h
    by (Err e) h = tt

-- all values of a list, where none is Over
abbrev AllOf : Kind → Result (List Value) Over → Type 0
AllOf k vs = IfOk vs (λ ws. list_all (is_of k) ws ≡ true)

more_of : (k : Kind) (r : Valued) (rs : List Valued) → IsOf k r → AllOf k (all_valued rs) → AllOf k (all_valued (r ∷ rs))
more_of k (Ok v) rs h g = also (all_valued rs) g
  where
    also : (vs : Result (List Value) Over) → AllOf k vs → AllOf k (more_valued v vs)
    also (Ok ws) g = (λ i. h i && g i)
    also (Err e) g = tt
more_of k (Err e) rs h g = tt

first_of_kind : (k : Kind) (vs : List Value) → list_all (is_of k) vs ≡ true → is_of k (first_there vs) ≡ true
first_of_kind k [] h = null_of k
  where
    null_of : (k : Kind) → is_of k null ≡ true
    null_of k = refl
first_of_kind k (null ∷ vs) h = first_of_kind k vs (and_right (is_of k null) (list_all (is_of k) vs) h)
first_of_kind k (number z ∷ vs) h = and_left (is_of k (number z)) (list_all (is_of k) vs) h
first_of_kind k (text t ∷ vs) h = and_left (is_of k (text t)) (list_all (is_of k) vs) h
first_of_kind k (truth b ∷ vs) h = and_left (is_of k (truth b)) (list_all (is_of k) vs) h

choice_of : (k : Kind) (vs : Result (List Value) Over) → AllOf k vs → IsOf k (with vs (λ ws. Ok (first_there ws)))
choice_of k (Ok ws) h = first_of_kind k ws h
choice_of k (Err e) h = tt

-- ---- layers

-- a column's value is of the kind of its type
abbrev fits_at : On → ColumnRef × ColumnType → Bool
fits_at on c = is_of (kind_of c.1.kind) (on.column c.0)

abbrev fit : On → Columns → Bool
fit on cs = list_all (fits_at on) cs

abbrev IsKind : (ℕ → Option DataType) → On → TypedExpr → Type 0
IsKind at on e = (t : DataType) → type_of at e ≡ Some t → fit on (columns_in e) ≡ true → IsOf t.kind (value on e)

by_parts : (at : ℕ → Option DataType) (on : On) (d : TypedExpr-F TypedExpr) → ((t : DataType) → form_type at (map-TypedExpr TypedExpr (Option DataType) (type_of at) d) ≡ Some t → fit on (form_columns (map-TypedExpr TypedExpr Columns columns_in d)) ≡ true →
    IsOf t.kind (form_value on (map-TypedExpr TypedExpr Operand (evaluated on) d))) → IsKind at on (roll-TypedExpr d)
by_parts at on d h t e f = subst (λ (r : Valued). IsOf t.kind r) (sym (value_roll on d)) (h t (sym (type_roll at d) ∙ e) (sym (ap (fit on) (columns_roll d)) ∙ f))

-- the kind of what passes a test
of_constant : (u t : DataType) (r : Valued) → IsOf u.kind r → Some u ≡ Some t → IsOf t.kind r
of_constant u t r h e = subst (λ (x : DataType). IsOf x.kind r) (some_same u t e) h

of_passed : (b : Bool) (u t : DataType) (r : Valued) → IsOf u.kind r → then_some b u ≡ Some t → IsOf t.kind r
of_passed b u t r h e = subst (λ (x : DataType). IsOf x.kind r) (passed b u t e).1 h

of_number : (b : Bool) (u t : DataType) (r : Valued) → (b ≡ true → is_number u.kind ≡ true) → IsOf Number r → then_some b u ≡ Some t → IsOf t.kind r
of_number b u t r n h e = let p = passed b u t e in subst (λ (x : DataType). IsOf x.kind r) p.1 (as_kind Number u.kind r (number_is u.kind (n p.0)) h)

-- ---- lists

abbrev Elements : (ℕ → Option DataType) → On → Type 0
Elements at on = List ((e : TypedExpr) × IsKind at on e)

abbrev exprs : (at : ℕ → Option DataType) (on : On) → Elements at on → List TypedExpr
exprs at on ys = map (λ y. y.0) ys

abbrev list_columns : (at : ℕ → Option DataType) (on : On) → Elements at on → Columns
list_columns at on ys = flat_map (λ (c : Columns). c) (map columns_in (exprs at on ys))

fit_first : (on : On) (cs ds : Columns) → fit on (cs ++ ds) ≡ true → fit on cs ≡ true
fit_first on cs ds h = and_left (fit on cs) (fit on ds) (sym (list_all-append (fits_at on) cs ds) ∙ h)

fit_rest : (on : On) (cs ds : Columns) → fit on (cs ++ ds) ≡ true → fit on ds ≡ true
fit_rest on cs ds h = and_right (fit on cs) (fit on ds) (sym (list_all-append (fits_at on) cs ds) ∙ h)

all_of : (at : ℕ → Option DataType) (on : On) (s : DataType) (to : ℕ) (ys : Elements at on) (ts : List DataType) → all_types (map (type_of at) (exprs at on ys)) ≡ Some ts → list_all (compares_with s) ts ≡ true → fit on (list_columns at on ys) ≡ true →
    AllOf s.kind (all_valued (map (at_scale to) (map (evaluated on) (exprs at on ys))))
all_of at on s to [] ts e c f = refl
all_of at on s to (y ∷ ys) ts e c f =
    let found = first_typed (type_of at y.0) (map (type_of at) (exprs at on ys)) ts e in
    let u = found.0 in
    let rest = found.1 in
    let alike : list_all (compares_with s) (u ∷ rest) ≡ true = ap (list_all (compares_with s)) found.4 ∙ c in
    let one = and_left (same_kind s.kind u.kind) (not (is_truth s.kind)) (and_left (compares_with s u) (list_all (compares_with s) rest) alike) in
    let more = and_right (compares_with s u) (list_all (compares_with s) rest) alike in
    more_of s.kind (at_scale to (evaluated on y.0)) (map (at_scale to) (map (evaluated on) (exprs at on ys)))
    (scaled_of s.kind to (evaluated on y.0) (as_kind u.kind s.kind (value on y.0) (sym (same_is s.kind u.kind one)) (y.1 u found.2 (fit_first on (columns_in y.0) (list_columns at on ys) f))))
    (all_of at on s to ys rest found.3 more (fit_rest on (columns_in y.0) (list_columns at on ys) f))

coalesce_of : (at : ℕ → Option DataType) (on : On) (x : TypedExpr) → IsKind at on x → (ys : Elements at on) (t : DataType) → form_type at (TypedExpr-F.Coalesce (type_of at x) (map (type_of at) (exprs at on ys))) ≡ Some t →
    fit on (columns_in x ++ list_columns at on ys) ≡ true → IsOf t.kind (form_value on (TypedExpr-F.Coalesce (evaluated on x) (map (evaluated on) (exprs at on ys))))
coalesce_of at on x h ys t e f =
    let values = map (evaluated on) (exprs at on ys) in
    let to = greatest (scale_of x) (map (λ (y : Operand). y.scale) values) in
    let types = map (type_of at) (exprs at on ys) in
    let first = chosen (type_of at x) (λ s. with_types types (choice_type s)) t e in
    let s = first.0 in
    let others = chosen (all_types types) (choice_type s) t first.2 in
    let ts = others.0 in
    let result = typed_as s.kind (greatest s.scale (map (λ (b : DataType). b.scale) ts)) in
    let whole = passed (list_all (compares_with s) (s ∷ ts)) result t others.2 in
    let alike = and_right (compares_with s s) (list_all (compares_with s) ts) whole.0 in
    let all = more_of s.kind (at_scale to (evaluated on x)) (map (at_scale to) values) (scaled_of s.kind to (evaluated on x) (h s first.1 (fit_first on (columns_in x) (list_columns at on ys) f)))
    (all_of at on s to ys ts others.1 alike (fit_rest on (columns_in x) (list_columns at on ys) f)) in
    subst (λ (u : DataType). IsOf u.kind (form_value on (TypedExpr-F.Coalesce (evaluated on x) values))) whole.1 (choice_of s.kind (all_at_one_scale (evaluated on x) values) all)

-- ---- the induction

abbrev Aggregates : (ℕ → Option DataType) → On → Type 0
Aggregates at on = (n : ℕ) (t : DataType) → at n ≡ Some t → IsOf t.kind (on.aggregate n)

by_layer : (at : ℕ → Option DataType) (on : On) → Aggregates at on → (y : TypedExpr-F ((e : TypedExpr) × IsKind at on e)) → IsKind at on (roll-TypedExpr (map-TypedExpr ((e : TypedExpr) × IsKind at on e) TypedExpr (λ x. x.0) y))
by_layer at on aggregates (TypedExpr-F.Number n scale) = by_parts at on (TypedExpr-F.Number n scale) (λ t e f. of_constant (typed_as Number scale) t (exact (pos n)) (exact_of (pos n)) e)
by_layer at on aggregates (TypedExpr-F.Text s) = by_parts at on (TypedExpr-F.Text s) (λ t e f. of_constant (typed_as Text 0) t (Ok (text s)) refl e)
by_layer at on aggregates (TypedExpr-F.Date day) = by_parts at on (TypedExpr-F.Date day) (λ t e f. of_constant (typed_as Date 0) t (Ok (number day)) refl e)
by_layer at on aggregates (TypedExpr-F.Column c type) =
    by_parts at on (TypedExpr-F.Column c type) (λ t e f. of_constant (column_type type) t (Ok (on.column c)) (and_left (fits_at on (c, type)) true f) e)
by_layer at on aggregates (TypedExpr-F.Aggregate n scale) =
    by_parts at on (TypedExpr-F.Aggregate n scale) (λ t e f.
    let found = chosen (at n) (λ u. then_some (u.scale == scale) u) t e in
    of_passed (found.0.scale == scale) found.0 t (on.aggregate n) (aggregates n found.0 found.1) found.2)
by_layer at on aggregates (TypedExpr-F.Signed s x) =
    by_parts at on (TypedExpr-F.Signed s x.0) (λ t e f.
    let found = chosen (type_of at x.0) number_type t e in
    of_number (is_number found.0.kind) found.0 t (with (value on x.0) (signed_value s)) (λ h. h) (then_of Number (value on x.0) (signed_value s) (signed_of s)) found.2)
by_layer at on aggregates (TypedExpr-F.Not x) =
    by_parts at on (TypedExpr-F.Not x.0) (λ t e f.
    let found = chosen (type_of at x.0) not_type t e in
    of_passed (is_truth found.0.kind) truth_type t (with (value on x.0) (λ v. Ok (opposite v))) (then_of Truth (value on x.0) (λ v. Ok (opposite v)) opposite_of) found.2)
by_layer at on aggregates (TypedExpr-F.Binary o x y) =
    by_parts at on (TypedExpr-F.Binary o x.0 y.0) (λ t e f.
    let left = chosen (type_of at x.0) (λ s. option_and_then (binary_type o s) (type_of at y.0)) t e in
    let right = chosen (type_of at y.0) (binary_type o left.0) t left.2 in
    of_passed (takes (family_of o) left.0.kind right.0.kind && scale_fits o left.0.scale right.0.scale) (typed_as (makes (family_of o)) (binary_scale o left.0.scale right.0.scale)) t
    (binary_value o (evaluated on x.0) (evaluated on y.0)) (binary_of o (evaluated on x.0) (evaluated on y.0)) right.2)
by_layer at on aggregates (TypedExpr-F.Divide x s n) =
    by_parts at on (TypedExpr-F.Divide x.0 s n) (λ t e f.
    let found = chosen (type_of at x.0) (λ u. then_some (not (n == 0) && is_number u.kind) u) t e in
    of_number (not (n == 0) && is_number found.0.kind) found.0 t (with (value on x.0) (λ v. quotient_value v s n)) (and_right (not (n == 0)) (is_number found.0.kind))
    (then_of Number (value on x.0) (λ v. quotient_value v s n) (quotient_of s n)) found.2)
by_layer at on aggregates (TypedExpr-F.Between p x a b) =
    by_parts at on (TypedExpr-F.Between p x.0 a.0 b.0) (λ t e f.
    let types = type_of at a.0 ∷ type_of at b.0 ∷ [] in
    let found = chosen (type_of at x.0) (λ s. with_types types (tested_type s)) t e in
    let others = chosen (all_types types) (tested_type found.0) t found.2 in
    let r = between (evaluated on x.0) (evaluated on a.0) (evaluated on b.0) in
    of_passed (list_all (compares_with found.0) others.0) truth_type t (with r (λ v. Ok (by_polarity p v))) (tested_of p r (between_of (evaluated on x.0) (evaluated on a.0) (evaluated on b.0))) others.2)
by_layer at on aggregates (TypedExpr-F.In p x ys) =
    by_parts at on (TypedExpr-F.In p x.0 (exprs at on ys)) (λ t e f.
    let types = map (type_of at) (exprs at on ys) in
    let found = chosen (type_of at x.0) (λ s. with_types types (tested_type s)) t e in
    let others = chosen (all_types types) (tested_type found.0) t found.2 in
    let r = among (evaluated on x.0) (map (evaluated on) (exprs at on ys)) in
    of_passed (list_all (compares_with found.0) others.0) truth_type t (with r (λ v. Ok (by_polarity p v))) (tested_of p r (among_of (evaluated on x.0) (map (evaluated on) (exprs at on ys)))) others.2)
by_layer at on aggregates (TypedExpr-F.IsNull p x) =
    by_parts at on (TypedExpr-F.IsNull p x.0) (λ t e f.
    let found = chosen (type_of at x.0) null_test_type t e in
    of_passed (not (is_truth found.0.kind)) truth_type t (with (value on x.0) (λ v. Ok (by_polarity p (truth (is_null v)))))
    (then_of Truth (value on x.0) (λ v. Ok (by_polarity p (truth (is_null v)))) (λ v. polarity_of p (truth (is_null v)) refl)) found.2)
by_layer at on aggregates (TypedExpr-F.Coalesce x ys) = by_parts at on (TypedExpr-F.Coalesce x.0 (exprs at on ys)) (coalesce_of at on x.0 x.1 ys)

pub kind_law : KindLaw
kind_law at on e t is h = kinds at on h.aggregates e t is h.columns
  where
    kinds : (at : ℕ → Option DataType) (on : On) → Aggregates at on → (e : TypedExpr) → IsKind at on e
    kinds at on aggregates = ind-TypedExpr (IsKind at on) (λ x y is. subst (λ z. IsKind at on (roll-TypedExpr z)) is (by_layer at on aggregates y))
