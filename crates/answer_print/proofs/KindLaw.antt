-- The kind of an expression that has a type is its type's, by induction over the expression.
use Rattle.std.proofs.Common.{◌≡◌, ◌∙◌, ◌≤◌, ℕ, ◌==◌, Bool, true, false, not, ◌&&◌, List, [], ◌∷◌, map, Option, Some, None, refl, sym, ap, subst, arith}
use Rattle.std.specs.Prelude.{slice_get}
use Rattle.std.specs.Bool.{then_some}
use Rattle.std.specs.List.{list_all}
use Rattle.std.specs.Option.{option_and_then}
use Rattle.std.proofs.lemmas.Bool.{false≢true}
use Rattle.std.proofs.lemmas.List.{get_or-map}
use Rattle.std.proofs.lemmas.Option.{get_or_from_slice_get, slice_get_within}
use Rattle.typed_trees.specs.declared.kinds.Kind.{Kind}
use Rattle.typed_trees.specs.declared.kinds.Kind.TheVariants.{Number, Date, Text, Truth}
use Rattle.typed_trees.specs.declared.typed.Aggregate.{Aggregate}
use Rattle.typed_trees.specs.declared.typed.AggregateKind.{AggregateKind}
use Rattle.typed_trees.specs.declared.typed.AggregateKind.TheVariants as of
use Rattle.typed_trees.specs.declared.typed.TypedExpr.{TypedExpr, roll-TypedExpr}
use Rattle.typed_trees.specs.declared.typed.TypedExpr.TheOpen.{TypedExpr-F}
use Rattle.typed_trees.specs.declared.typed.TypedExpr.TheFolds.{map-TypedExpr, ind-TypedExpr, fold-roll-TypedExpr}
use Rattle.typed_trees.specs.Kinds.{is_number, is_truth, family_of, takes, makes}
use Rattle.typed_trees.specs.Scales.{greatest, binary_scale, scale_of}
use Rattle.typed_trees.specs.Typed.{IsItem}
use Rattle.typed_trees.specs.Types.{DataType, typed_as, truth, column_type, number_type, not_type, scale_fits, binary_type, compares_with, tested_type, null_test_type, choice_type, all_types, with_type, with_types, form_type, type_of, no_aggregate, folded_type, argument_type, aggregate_type, types_of}
use Rattle.typed_trees.proofs.Inversions.{some_same, passed, chosen}
use Rattle.typed_trees.proofs.Scaled.{scale_law}
use Rattle.typed_trees.proofs.TypeForms.{type_roll}
use Rattle.typed_values.specs.Narrow.{counted}
use Rattle.answer_print.specs.Kinds.{kind_at, form_kind, kind_in, folded, argument_kind, aggregate_kind, aggregate_kinds}

abbrev HaveKinds : (ℕ → Option DataType) → List Kind → Type 0
HaveKinds at kinds = (n : ℕ) (t : DataType) → at n ≡ Some t → kind_at kinds n ≡ t.kind

abbrev IsKinded : (ℕ → Option DataType) → List Kind → TypedExpr → Type 0
IsKinded at kinds e = (t : DataType) → type_of at e ≡ Some t → kind_in kinds e ≡ t.kind

-- the same of the type and the kind of a layer
abbrev IsKindedAs : Option DataType → Kind → Type 0
IsKindedAs o k = (t : DataType) → o ≡ Some t → k ≡ t.kind

kind_same : (a b : DataType) → a ≡ b → a.kind ≡ b.kind
kind_same a b e = ap (λ (x : DataType). x.kind) e

constant : (u : DataType) → IsKindedAs (Some u) u.kind
constant u t e = kind_same u t (some_same u t e)

tested : (b : Bool) (u : DataType) → IsKindedAs (then_some b u) u.kind
tested b u t e = kind_same u t (passed b u t e).1

is_numbered : (k : Kind) → is_number k ≡ true → Number ≡ k
is_numbered Number h = refl
is_numbered Date h = absurd (false≢true h)
is_numbered Text h = absurd (false≢true h)
is_numbered Truth h = absurd (false≢true h)

number : (b : Bool) (u : DataType) → (b ≡ true → is_number u.kind ≡ true) → IsKindedAs (then_some b u) Number
number b u h t e = is_numbered u.kind (h (passed b u t e).0) ∙ kind_same u t (passed b u t e).1

right : (a b : Bool) → (a && b) ≡ true → b ≡ true
right true b h = h
right false b h = absurd (false≢true h)

whole : {A : Type 0} (a : Option A) (k : Kind) (f : A → Option DataType) → ((u : A) → IsKindedAs (f u) k) → IsKindedAs (option_and_then f a) k
whole a k f h t e = let x = chosen a f t e in h x.0 t x.2

aggregate : (at : ℕ → Option DataType) (kinds : List Kind) (n scale : ℕ) → HaveKinds at kinds → IsKindedAs (option_and_then (λ (u : DataType). then_some (u.scale == scale) u) (at n)) (kind_at kinds n)
aggregate at kinds n scale h t e =
    let x = chosen (at n) (λ (u : DataType). then_some (u.scale == scale) u) t e in
    h n x.0 x.1 ∙ kind_same x.0 t (passed (x.0.scale == scale) x.0 t x.2).1

choice : (a : Option DataType) (k : Kind) (bs : List (Option DataType)) → IsKindedAs a k → IsKindedAs (option_and_then (λ u. with_types bs (choice_type u)) a) k
choice a k bs h t e =
    let x = chosen a (λ u. with_types bs (choice_type u)) t e in
    let y = chosen (all_types bs) (choice_type x.0) t x.2 in
    h x.0 x.1 ∙ kind_same (typed_as x.0.kind (greatest x.0.scale (map (λ b. b.scale) y.0))) t (passed (list_all (compares_with x.0) (x.0 ∷ y.0)) (typed_as x.0.kind (greatest x.0.scale (map (λ b. b.scale) y.0))) t y.2).1

-- ---- the induction

kind_roll : (kinds : List Kind) (d : TypedExpr-F TypedExpr) → kind_in kinds (roll-TypedExpr d) ≡ form_kind kinds (map-TypedExpr TypedExpr Kind (kind_in kinds) d)
unfolding kind_in
kind_roll kinds d = fold-roll-TypedExpr Kind (form_kind kinds) d

abbrev exprs : (at : ℕ → Option DataType) (kinds : List Kind) → List ((e : TypedExpr) × IsKinded at kinds e) → List TypedExpr
exprs at kinds ys = map (λ y. y.0) ys

by_parts : (at : ℕ → Option DataType) (kinds : List Kind) (d : TypedExpr-F TypedExpr) → IsKindedAs (form_type at (map-TypedExpr TypedExpr (Option DataType) (type_of at) d)) (form_kind kinds (map-TypedExpr TypedExpr Kind (kind_in kinds) d)) → IsKinded at kinds (roll-TypedExpr d)
by_parts at kinds d h t e = kind_roll kinds d ∙ h t (sym (type_roll at d) ∙ e)

by_layer : (at : ℕ → Option DataType) (kinds : List Kind) → HaveKinds at kinds → (y : TypedExpr-F ((e : TypedExpr) × IsKinded at kinds e)) → IsKinded at kinds (roll-TypedExpr (map-TypedExpr ((e : TypedExpr) × IsKinded at kinds e) TypedExpr (λ x. x.0) y))
by_layer at kinds h (TypedExpr-F.Number n scale) = by_parts at kinds (TypedExpr-F.Number n scale) (constant (typed_as Number scale))
by_layer at kinds h (TypedExpr-F.Text t) = by_parts at kinds (TypedExpr-F.Text t) (constant (typed_as Text 0))
by_layer at kinds h (TypedExpr-F.Date day) = by_parts at kinds (TypedExpr-F.Date day) (constant (typed_as Date 0))
by_layer at kinds h (TypedExpr-F.Column c type) = by_parts at kinds (TypedExpr-F.Column c type) (constant (column_type type))
by_layer at kinds h (TypedExpr-F.Aggregate n scale) = by_parts at kinds (TypedExpr-F.Aggregate n scale) (aggregate at kinds n scale h)
by_layer at kinds h (TypedExpr-F.Signed s x) = by_parts at kinds (TypedExpr-F.Signed s x.0) (whole (type_of at x.0) Number number_type (λ u. number (is_number u.kind) u (λ n. n)))
by_layer at kinds h (TypedExpr-F.Not x) = by_parts at kinds (TypedExpr-F.Not x.0) (whole (type_of at x.0) Truth not_type (λ u. tested (is_truth u.kind) truth))
by_layer at kinds h (TypedExpr-F.Binary o x y) =
    by_parts at kinds (TypedExpr-F.Binary o x.0 y.0)
    (whole (type_of at x.0) (makes (family_of o)) (λ u. with_type (type_of at y.0) (binary_type o u)) (λ u. whole (type_of at y.0) (makes (family_of o)) (binary_type o u) (λ w. tested (takes (family_of o) u.kind w.kind && scale_fits o u.scale w.scale) (typed_as (makes (family_of o)) (binary_scale o u.scale w.scale)))))
by_layer at kinds h (TypedExpr-F.Divide x s n) =
    by_parts at kinds (TypedExpr-F.Divide x.0 s n)
    (whole (type_of at x.0) Number (λ u. then_some (not (n == 0) && is_number u.kind) u) (λ u. number (not (n == 0) && is_number u.kind) u (right (not (n == 0)) (is_number u.kind))))
by_layer at kinds h (TypedExpr-F.Between p x y z) =
    by_parts at kinds (TypedExpr-F.Between p x.0 y.0 z.0)
    (whole (type_of at x.0) Truth (λ u. with_types (type_of at y.0 ∷ type_of at z.0 ∷ []) (tested_type u)) (λ u. whole (all_types (type_of at y.0 ∷ type_of at z.0 ∷ [])) Truth (tested_type u) (λ us. tested (list_all (compares_with u) us) truth)))
by_layer at kinds h (TypedExpr-F.In p x ys) =
    by_parts at kinds (TypedExpr-F.In p x.0 (exprs at kinds ys))
    (whole (type_of at x.0) Truth (λ u. with_types (map (type_of at) (exprs at kinds ys)) (tested_type u)) (λ u. whole (all_types (map (type_of at) (exprs at kinds ys))) Truth (tested_type u) (λ us. tested (list_all (compares_with u) us) truth)))
by_layer at kinds h (TypedExpr-F.IsNull p x) = by_parts at kinds (TypedExpr-F.IsNull p x.0) (whole (type_of at x.0) Truth null_test_type (λ u. tested (not (is_truth u.kind)) truth))
by_layer at kinds h (TypedExpr-F.Coalesce x ys) = by_parts at kinds (TypedExpr-F.Coalesce x.0 (exprs at kinds ys)) (choice (type_of at x.0) (kind_in kinds x.0) (map (type_of at) (exprs at kinds ys)) x.1)

kind_law : (at : ℕ → Option DataType) (kinds : List Kind) → HaveKinds at kinds → (e : TypedExpr) → IsKinded at kinds e
kind_law at kinds h = ind-TypedExpr (IsKinded at kinds) (λ x y is. subst (λ z. IsKinded at kinds (roll-TypedExpr z)) is (by_layer at kinds h y))

-- ---- aggregates

folded_law : (kind : AggregateKind) (u : DataType) (k : Kind) → k ≡ u.kind → IsKindedAs (folded_type kind u) (folded kind k)
folded_law of.Count u k h t e = kind_same (typed_as Number 0) t (passed (not (is_truth u.kind)) (typed_as Number 0) t e).1
folded_law of.Sum u k h t e = number (is_number u.kind) u (λ n. n) t e
folded_law of.Avg u k h t e = number (is_number u.kind) u (λ n. n) t e
folded_law of.Min u k h t e = h ∙ tested (not (is_truth u.kind)) u t e
folded_law of.Max u k h t e = h ∙ tested (not (is_truth u.kind)) u t e

argument_law : (kind : AggregateKind) (o : Option TypedExpr) → IsKindedAs (argument_type kind o) (argument_kind kind o)
argument_law of.Count None t e = constant (typed_as Number 0) t e
argument_law of.Sum None t e = absurd cc
argument_law of.Avg None t e = absurd cc
argument_law of.Min None t e = absurd cc
argument_law of.Max None t e = absurd cc
argument_law kind (Some a) t e =
    let x = chosen (type_of no_aggregate a) (folded_type kind) t e in
    folded_law kind x.0 (kind_in [] a) (kind_law no_aggregate [] (λ n u none. absurd cc) a x.0 x.1) t x.2

kinds_of : (aggregates : List Aggregate) → HaveKinds (types_of aggregates) (aggregate_kinds aggregates)
kinds_of aggregates n t e =
    let x = chosen (slice_get aggregates n) aggregate_type t e in
    get_or-map aggregate_kind aggregates n x.0 Number (slice_get_within aggregates n x.0 x.1)
    ∙ ap aggregate_kind (get_or_from_slice_get aggregates n x.0 x.0 x.1)
    ∙ argument_law x.0.kind x.0.argument t x.2

-- ---- items

pub typed_item : (aggregates : List Aggregate) (e : TypedExpr) (kind : Kind) (scale : ℕ) → IsItem (types_of aggregates) e → scale_of e ≤ 36 → kind ≡ kind_in (aggregate_kinds aggregates) e → scale ≡ counted (scale_of e)
    → Some (typed_as kind scale) ≡ type_of (types_of aggregates) e
typed_item aggregates e kind scale item few is_kind is_scale =
    let kinded : kind ≡ item.type.kind = is_kind ∙ kind_law (types_of aggregates) (aggregate_kinds aggregates) (kinds_of aggregates) e item.type item.is in
    let whole : counted (scale_of e) ≡ scale_of e = omega (arith, few) in
    let scaled : scale ≡ item.type.scale = is_scale ∙ whole ∙ scale_law (types_of aggregates) e item.type item.is in
    (λ i. Some (typed_as (kinded i) (scaled i))) ∙ sym item.is
