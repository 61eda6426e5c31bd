-- The scale of a typed expression is one of its kind: at most 36 digits, and none for a text. By induction over the expression.
use Rattle.std.proofs.Common.{◌≡◌, ℕ, ◌≤◌, ◌==◌, max, nat_le, Bool, true, false, not, ◌&&◌, List, [], ◌∷◌, map, Option, Some, refl, sym, ap, ◌∙◌, subst, arith}
use Rattle.std.specs.Bool.{then_some}
use Rattle.std.specs.List.{list_all}
use Rattle.std.specs.Option.{option_and_then}
use Rattle.std.proofs.lemmas.Bool.{leb-true, eqb-true, le-leb}
use Rattle.query_trees.specs.declared.expr.BinaryOp.{BinaryOp}
use Rattle.query_trees.specs.declared.expr.BinaryOp.TheVariants as op
use Rattle.typed_trees.specs.declared.kinds.Kind.{Kind}
use Rattle.typed_trees.specs.declared.kinds.Kind.TheVariants.{Number, Date, Text, Truth}
use Rattle.typed_trees.specs.declared.typed.TypedExpr.{TypedExpr, roll-TypedExpr}
use Rattle.typed_trees.specs.declared.typed.TypedExpr.TheOpen.{TypedExpr-F}
use Rattle.typed_trees.specs.declared.typed.TypedExpr.TheFolds.{map-TypedExpr, ind-TypedExpr, fold-roll-TypedExpr}
use Rattle.typed_trees.specs.Kinds.{is_number, is_truth, same_kind, family_of, takes, makes}
use Rattle.typed_trees.specs.Scales.{greatest, binary_scale}
use Rattle.typed_trees.specs.Types.{DataType, typed_as, truth, column_type, number_type, not_type, scale_fits, binary_type, compares_with, tested_type, null_test_type, choice_type, all_types, with_types, form_type, type_of}
use Rattle.typed_trees.proofs.Inversions.{some_same, passed, chosen, first_typed}
use Rattle.typed_trees.proofs.TypeForms.{type_roll}
use Rattle.expr_values.specs.Written.{fits_127, is_scale, kind_scale, AreScaled, form_written, is_written}

pub written_roll : (d : TypedExpr-F TypedExpr) → is_written (roll-TypedExpr d) ≡ form_written (map-TypedExpr TypedExpr Bool is_written d)
unfolding is_written
written_roll d = fold-roll-TypedExpr Bool form_written d

pub and_left : (x y : Bool) → (x && y) ≡ true → x ≡ true
and_left true y e = refl
and_left false y e = cc

pub and_right : (x y : Bool) → (x && y) ≡ true → y ≡ true
and_right true y e = e
and_right false y e = cc

pub same_is : (a b : Kind) → same_kind a b ≡ true → a ≡ b
same_is Number Number e = refl
same_is Date Date e = refl
same_is Text Text e = refl
same_is Truth Truth e = refl
same_is Number Date e = absurd (cc)
same_is Number Text e = absurd (cc)
same_is Number Truth e = absurd (cc)
same_is Date Number e = absurd (cc)
same_is Date Text e = absurd (cc)
same_is Date Truth e = absurd (cc)
same_is Text Number e = absurd (cc)
same_is Text Date e = absurd (cc)
same_is Text Truth e = absurd (cc)
same_is Truth Number e = absurd (cc)
same_is Truth Date e = absurd (cc)
same_is Truth Text e = absurd (cc)

-- ---- scales of a kind

zero_small : (n : ℕ) → (n == 0) ≡ true → nat_le n 36 ≡ true
zero_small n h = let is : n ≡ 0 = eqb-true n 0 h in le-leb n 36 (omega arith)

pub scale_small : (k : Kind) (n : ℕ) → kind_scale k n ≡ true → nat_le n 36 ≡ true
scale_small Number n h = h
scale_small Date n h = h
scale_small Text n h = zero_small n h
scale_small Truth n h = h

max_small : (m n : ℕ) → nat_le m 36 ≡ true → nat_le n 36 ≡ true → nat_le (max m n) 36 ≡ true
max_small m n h g = let a : m ≤ 36 = leb-true m 36 h in let b : n ≤ 36 = leb-true n 36 g in le-leb (max m n) 36 (omega arith)

max_none : (m n : ℕ) → (m == 0) ≡ true → (n == 0) ≡ true → (max m n == 0) ≡ true
max_none m n h g = (λ i. max (eqb-true m 0 h i) (eqb-true n 0 g i) == 0)

pub max_scale : (k : Kind) (m n : ℕ) → kind_scale k m ≡ true → kind_scale k n ≡ true → kind_scale k (max m n) ≡ true
max_scale Number m n h g = max_small m n h g
max_scale Date m n h g = max_small m n h g
max_scale Text m n h g = max_none m n h g
max_scale Truth m n h g = max_small m n h g

-- ---- layers

abbrev pub IsScaled : (ℕ → Option DataType) → TypedExpr → Type 0
IsScaled at e = (t : DataType) → type_of at e ≡ Some t → is_written e ≡ true → kind_scale t.kind t.scale ≡ true

by_parts : (at : ℕ → Option DataType) (d : TypedExpr-F TypedExpr) → ((t : DataType) → form_type at (map-TypedExpr TypedExpr (Option DataType) (type_of at) d) ≡ Some t → form_written (map-TypedExpr TypedExpr Bool is_written d) ≡ true → kind_scale t.kind t.scale ≡ true) → IsScaled at (roll-TypedExpr d)
by_parts at d h t e w = h t (sym (type_roll at d) ∙ e) (sym (written_roll d) ∙ w)

of_same : (u t : DataType) → u ≡ t → kind_scale u.kind u.scale ≡ true → kind_scale t.kind t.scale ≡ true
of_same u t e h = subst (λ (x : DataType). kind_scale x.kind x.scale ≡ true) e h

of_passed : (b : Bool) (u t : DataType) → then_some b u ≡ Some t → kind_scale u.kind u.scale ≡ true → kind_scale t.kind t.scale ≡ true
of_passed b u t e h = of_same u t (passed b u t e).1 h

binary_scaled : (o : BinaryOp) (s t : DataType) → kind_scale s.kind s.scale ≡ true → kind_scale t.kind t.scale ≡ true → scale_fits o s.scale t.scale ≡ true → kind_scale (makes (family_of o)) (binary_scale o s.scale t.scale) ≡ true
binary_scaled op.Add s t h g f = max_small s.scale t.scale (scale_small s.kind s.scale h) (scale_small t.kind t.scale g)
binary_scaled op.Subtract s t h g f = max_small s.scale t.scale (scale_small s.kind s.scale h) (scale_small t.kind t.scale g)
binary_scaled op.Multiply s t h g f = f
binary_scaled op.Or s t h g f = refl
binary_scaled op.And s t h g f = refl
binary_scaled op.Equal s t h g f = refl
binary_scaled op.Differs s t h g f = refl
binary_scaled op.Less s t h g f = refl
binary_scaled op.LessEqual s t h g f = refl
binary_scaled op.Greater s t h g f = refl
binary_scaled op.GreaterEqual s t h g f = refl

abbrev Elements : (ℕ → Option DataType) → Type 0
Elements at = List ((e : TypedExpr) × IsScaled at e)

abbrev exprs : (at : ℕ → Option DataType) → Elements at → List TypedExpr
exprs at ys = map (λ y. y.0) ys

-- the greatest of the scales of one kind
greatest_scaled : (at : ℕ → Option DataType) (s : DataType) (first : ℕ) → kind_scale s.kind first ≡ true → (ys : Elements at) (ts : List DataType) → all_types (map (type_of at) (exprs at ys)) ≡ Some ts → list_all (compares_with s) ts ≡ true → list_all (λ (b : Bool). b) (map is_written (exprs at ys)) ≡ true →
    kind_scale s.kind (greatest first (map (λ (b : DataType). b.scale) ts)) ≡ true
greatest_scaled at s first h [] ts e c w = subst (λ (l : List DataType). kind_scale s.kind (greatest first (map (λ (b : DataType). b.scale) l)) ≡ true) (some_same [] ts e) h
greatest_scaled at s first h (y ∷ ys) ts e c w =
    let found = first_typed (type_of at y.0) (map (type_of at) (exprs at ys)) ts e in
    let u = found.0 in
    let rest = found.1 in
    let alike : list_all (compares_with s) (u ∷ rest) ≡ true = ap (list_all (compares_with s)) found.4 ∙ c in
    let kind = same_is s.kind u.kind (and_left (same_kind s.kind u.kind) (not (is_truth s.kind)) (and_left (compares_with s u) (list_all (compares_with s) rest) alike)) in
    let one = subst (λ (k : Kind). kind_scale k u.scale ≡ true) (sym kind) (y.1 u found.2 (and_left (is_written y.0) (list_all (λ (b : Bool). b) (map is_written (exprs at ys))) w)) in
    let more = greatest_scaled at s u.scale one ys rest found.3 (and_right (compares_with s u) (list_all (compares_with s) rest) alike) (and_right (is_written y.0) (list_all (λ (b : Bool). b) (map is_written (exprs at ys))) w) in
    subst (λ (l : List DataType). kind_scale s.kind (greatest first (map (λ (b : DataType). b.scale) l)) ≡ true) found.4
    (max_scale s.kind first (greatest u.scale (map (λ (b : DataType). b.scale) rest)) h more)

choice_scaled : (at : ℕ → Option DataType) (x : TypedExpr) → IsScaled at x → (ys : Elements at) (t : DataType) → form_type at (TypedExpr-F.Coalesce (type_of at x) (map (type_of at) (exprs at ys))) ≡ Some t → is_written x ≡ true → list_all (λ (b : Bool). b) (map is_written (exprs at ys)) ≡ true →
    kind_scale t.kind t.scale ≡ true
choice_scaled at x h ys t e w v =
    let types = map (type_of at) (exprs at ys) in
    let first = chosen (type_of at x) (λ s. with_types types (choice_type s)) t e in
    let s = first.0 in
    let others = chosen (all_types types) (choice_type s) t first.2 in
    let ts = others.0 in
    let result = typed_as s.kind (greatest s.scale (map (λ (b : DataType). b.scale) ts)) in
    let whole = passed (list_all (compares_with s) (s ∷ ts)) result t others.2 in
    of_same result t whole.1 (greatest_scaled at s s.scale (h s first.1 w) ys ts others.1 (and_right (compares_with s s) (list_all (compares_with s) ts) whole.0) v)

-- ---- the induction

by_layer : (at : ℕ → Option DataType) → AreScaled at → (y : TypedExpr-F ((e : TypedExpr) × IsScaled at e)) → IsScaled at (roll-TypedExpr (map-TypedExpr ((e : TypedExpr) × IsScaled at e) TypedExpr (λ x. x.0) y))
by_layer at a (TypedExpr-F.Number n scale) = by_parts at (TypedExpr-F.Number n scale) (λ t e w. of_same (typed_as Number scale) t (some_same (typed_as Number scale) t e) (and_right (fits_127 n) (is_scale scale) w))
by_layer at a (TypedExpr-F.Text s) = by_parts at (TypedExpr-F.Text s) (λ t e w. of_same (typed_as Text 0) t (some_same (typed_as Text 0) t e) refl)
by_layer at a (TypedExpr-F.Date day) = by_parts at (TypedExpr-F.Date day) (λ t e w. of_same (typed_as Date 0) t (some_same (typed_as Date 0) t e) refl)
by_layer at a (TypedExpr-F.Column c type) = by_parts at (TypedExpr-F.Column c type) (λ t e w. of_same (column_type type) t (some_same (column_type type) t e) w)
by_layer at a (TypedExpr-F.Aggregate n scale) =
    by_parts at (TypedExpr-F.Aggregate n scale) (λ t e w.
    let found = chosen (at n) (λ (u : DataType). then_some (u.scale == scale) u) t e in
    of_passed (found.0.scale == scale) found.0 t found.2 (a n found.0 found.1))
by_layer at a (TypedExpr-F.Signed s x) =
    by_parts at (TypedExpr-F.Signed s x.0) (λ t e w.
    let found = chosen (type_of at x.0) number_type t e in
    of_passed (is_number found.0.kind) found.0 t found.2 (x.1 found.0 found.1 w))
by_layer at a (TypedExpr-F.Not x) =
    by_parts at (TypedExpr-F.Not x.0) (λ t e w.
    let found = chosen (type_of at x.0) not_type t e in
    of_passed (is_truth found.0.kind) truth t found.2 refl)
by_layer at a (TypedExpr-F.Binary o x y) =
    by_parts at (TypedExpr-F.Binary o x.0 y.0) (λ t e w.
    let left = chosen (type_of at x.0) (λ s. option_and_then (binary_type o s) (type_of at y.0)) t e in
    let right = chosen (type_of at y.0) (binary_type o left.0) t left.2 in
    let made = typed_as (makes (family_of o)) (binary_scale o left.0.scale right.0.scale) in
    let whole = passed (takes (family_of o) left.0.kind right.0.kind && scale_fits o left.0.scale right.0.scale) made t right.2 in
    of_same made t whole.1 (binary_scaled o left.0 right.0 (x.1 left.0 left.1 (and_left (is_written x.0) (is_written y.0) w)) (y.1 right.0 right.1 (and_right (is_written x.0) (is_written y.0) w))
    (and_right (takes (family_of o) left.0.kind right.0.kind) (scale_fits o left.0.scale right.0.scale) whole.0)))
by_layer at a (TypedExpr-F.Divide x s n) =
    by_parts at (TypedExpr-F.Divide x.0 s n) (λ t e w.
    let found = chosen (type_of at x.0) (λ (u : DataType). then_some (not (n == 0) && is_number u.kind) u) t e in
    of_passed (not (n == 0) && is_number found.0.kind) found.0 t found.2 (x.1 found.0 found.1 (and_right (fits_127 n) (is_written x.0) w)))
by_layer at a (TypedExpr-F.Between p x y z) =
    by_parts at (TypedExpr-F.Between p x.0 y.0 z.0) (λ t e w.
    let types = type_of at y.0 ∷ type_of at z.0 ∷ [] in
    let found = chosen (type_of at x.0) (λ s. with_types types (tested_type s)) t e in
    let more = chosen (all_types types) (tested_type found.0) t found.2 in
    of_passed (list_all (compares_with found.0) more.0) truth t more.2 refl)
by_layer at a (TypedExpr-F.In p x ys) =
    by_parts at (TypedExpr-F.In p x.0 (exprs at ys)) (λ t e w.
    let types = map (type_of at) (exprs at ys) in
    let found = chosen (type_of at x.0) (λ s. with_types types (tested_type s)) t e in
    let more = chosen (all_types types) (tested_type found.0) t found.2 in
    of_passed (list_all (compares_with found.0) more.0) truth t more.2 refl)
by_layer at a (TypedExpr-F.IsNull p x) =
    by_parts at (TypedExpr-F.IsNull p x.0) (λ t e w.
    let found = chosen (type_of at x.0) null_test_type t e in
    of_passed (not (is_truth found.0.kind)) truth t found.2 refl)
by_layer at a (TypedExpr-F.Coalesce x ys) =
    by_parts at (TypedExpr-F.Coalesce x.0 (exprs at ys)) (λ t e w.
    choice_scaled at x.0 x.1 ys t e (and_left (is_written x.0) (list_all (λ (b : Bool). b) (map is_written (exprs at ys))) w) (and_right (is_written x.0) (list_all (λ (b : Bool). b) (map is_written (exprs at ys))) w))

pub scaled_types : (at : ℕ → Option DataType) → AreScaled at → (e : TypedExpr) → IsScaled at e
scaled_types at a = ind-TypedExpr (IsScaled at) (λ x y is. subst (λ z. IsScaled at (roll-TypedExpr z)) is (by_layer at a y))
