-- The scale of an expression's type is the expression's own, by induction over the expression.
use Rattle.std.proofs.Common.{◌≡◌, ℕ, ◌==◌, Bool, not, ◌&&◌, List, [], ◌∷◌, map, Option, Some, sym, ap, ◌∙◌, subst}
use Rattle.std.specs.Bool.{then_some}
use Rattle.std.specs.List.{list_all}
use Rattle.std.specs.Option.{option_and_then}
use Rattle.std.proofs.lemmas.Bool.{eqb-true}
use Rattle.query_trees.specs.declared.expr.BinaryOp.{BinaryOp}
use Rattle.typed_trees.specs.declared.kinds.Kind.TheVariants.{Number, Date, Text}
use Rattle.typed_trees.specs.declared.typed.TypedExpr.{TypedExpr, roll-TypedExpr}
use Rattle.typed_trees.specs.declared.typed.TypedExpr.TheOpen.{TypedExpr-F}
use Rattle.typed_trees.specs.declared.typed.TypedExpr.TheFolds.{map-TypedExpr, ind-TypedExpr}
use Rattle.typed_trees.specs.Kinds.{is_number, is_truth, family_of, takes, makes}
use Rattle.typed_trees.specs.Laws.{ScaleLaw}
use Rattle.typed_trees.specs.Scales.{greatest, binary_scale, form_scale, scale_of}
use Rattle.typed_trees.specs.Types.{DataType, typed_as, truth, column_type, number_type, not_type, scale_fits, binary_type, compares_with, tested_type, null_test_type, choice_type, all_types, with_types, form_type, type_of}
use Rattle.typed_trees.proofs.Inversions.{some_same, passed, chosen, first_typed}
use Rattle.typed_trees.proofs.ScaleForms.{scale_roll}
use Rattle.typed_trees.proofs.TypeForms.{type_roll}

abbrev IsScaled : (ℕ → Option DataType) → TypedExpr → Type 0
IsScaled at e = (t : DataType) → type_of at e ≡ Some t → scale_of e ≡ t.scale

-- the same of the type and the scale of a layer
abbrev IsScaledAs : Option DataType → ℕ → Type 0
IsScaledAs o s = (t : DataType) → o ≡ Some t → s ≡ t.scale

constant : (u : DataType) → IsScaledAs (Some u) u.scale
constant u t e = ap (λ (x : DataType). x.scale) (some_same u t e)

tested : (b : Bool) (u : DataType) → IsScaledAs (then_some b u) u.scale
tested b u t e = ap (λ (x : DataType). x.scale) (passed b u t e).1

-- an operator that keeps the scale, and one that makes a truth
kept : (a : Option DataType) (s : ℕ) (f : DataType → Option DataType) → ((u : DataType) → IsScaledAs (f u) u.scale) → IsScaledAs a s → IsScaledAs (option_and_then f a) s
kept a s f h g t e = let x = chosen a f t e in g x.0 x.1 ∙ h x.0 t x.2

whole : {A : Type 0} (a : Option A) (s : ℕ) (f : A → Option DataType) → ((u : A) → IsScaledAs (f u) s) → IsScaledAs (option_and_then f a) s
whole a s f h t e = let x = chosen a f t e in h x.0 t x.2

aggregate : (a : Option DataType) (scale : ℕ) → IsScaledAs (option_and_then (λ (u : DataType). then_some (u.scale == scale) u) a) scale
aggregate a scale = whole a scale (λ (u : DataType). then_some (u.scale == scale) u) (λ u t e. let p = passed (u.scale == scale) u t e in sym (eqb-true u.scale scale p.0) ∙ ap (λ (x : DataType). x.scale) p.1)

binary : (o : BinaryOp) (a b : Option DataType) (s t : ℕ) → IsScaledAs a s → IsScaledAs b t → IsScaledAs (option_and_then (λ u. option_and_then (binary_type o u) b) a) (binary_scale o s t)
binary o a b s t h g v e =
    let x = chosen a (λ u. option_and_then (binary_type o u) b) v e in
    let y = chosen b (binary_type o x.0) v x.2 in
    ap (λ n. binary_scale o n t) (h x.0 x.1) ∙ (ap (binary_scale o x.0.scale) (g y.0 y.1) ∙ ap (λ (z : DataType). z.scale) (passed (takes (family_of o) x.0.kind y.0.kind && scale_fits o x.0.scale y.0.scale) (typed_as (makes (family_of o)) (binary_scale o x.0.scale y.0.scale)) v y.2).1)

abbrev Elements : (ℕ → Option DataType) → Type 0
Elements at = List ((e : TypedExpr) × IsScaled at e)

abbrev exprs : (at : ℕ → Option DataType) → Elements at → List TypedExpr
exprs at ys = map (λ y. y.0) ys

scales : (at : ℕ → Option DataType) (ys : Elements at) (ts : List DataType) → all_types (map (type_of at) (exprs at ys)) ≡ Some ts → map scale_of (exprs at ys) ≡ map (λ t. t.scale) ts
scales at [] ts e = ap (map (λ (t : DataType). t.scale)) (some_same [] ts e)
scales at (y ∷ ys) ts e =
    let x = first_typed (type_of at y.0) (map (type_of at) (exprs at ys)) ts e in
    ap (λ n. n ∷ map scale_of (exprs at ys)) (y.1 x.0 x.2) ∙ (ap (λ ns. x.0.scale ∷ ns) (scales at ys x.1 x.3) ∙ ap (map (λ (t : DataType). t.scale)) x.4)

choice : (at : ℕ → Option DataType) (a : Option DataType) (s : ℕ) (ys : Elements at) → IsScaledAs a s → IsScaledAs (option_and_then (λ u. with_types (map (type_of at) (exprs at ys)) (choice_type u)) a) (greatest s (map scale_of (exprs at ys)))
choice at a s ys h t e =
    let bs = map (type_of at) (exprs at ys) in
    let x = chosen a (λ u. with_types bs (choice_type u)) t e in
    let y = chosen (all_types bs) (choice_type x.0) t x.2 in
    ap (λ n. greatest n (map scale_of (exprs at ys))) (h x.0 x.1) ∙ (ap (greatest x.0.scale) (scales at ys y.0 y.1) ∙ ap (λ (z : DataType). z.scale) (passed (list_all (compares_with x.0) (x.0 ∷ y.0)) (typed_as x.0.kind (greatest x.0.scale (map (λ b. b.scale) y.0))) t y.2).1)

-- ---- the induction

by_parts : (at : ℕ → Option DataType) (d : TypedExpr-F TypedExpr) → IsScaledAs (form_type at (map-TypedExpr TypedExpr (Option DataType) (type_of at) d)) (form_scale (map-TypedExpr TypedExpr ℕ scale_of d)) → IsScaled at (roll-TypedExpr d)
by_parts at d h t e = scale_roll d ∙ h t (sym (type_roll at d) ∙ e)

by_layer : (at : ℕ → Option DataType) (y : TypedExpr-F ((e : TypedExpr) × IsScaled at e)) → IsScaled at (roll-TypedExpr (map-TypedExpr ((e : TypedExpr) × IsScaled at e) TypedExpr (λ x. x.0) y))
by_layer at (TypedExpr-F.Number n scale) = by_parts at (TypedExpr-F.Number n scale) (constant (typed_as Number scale))
by_layer at (TypedExpr-F.Text t) = by_parts at (TypedExpr-F.Text t) (constant (typed_as Text 0))
by_layer at (TypedExpr-F.Date day) = by_parts at (TypedExpr-F.Date day) (constant (typed_as Date 0))
by_layer at (TypedExpr-F.Column c type) = by_parts at (TypedExpr-F.Column c type) (constant (column_type type))
by_layer at (TypedExpr-F.Aggregate n scale) = by_parts at (TypedExpr-F.Aggregate n scale) (aggregate (at n) scale)
by_layer at (TypedExpr-F.Signed s x) = by_parts at (TypedExpr-F.Signed s x.0) (kept (type_of at x.0) (scale_of x.0) number_type (λ u. tested (is_number u.kind) u) x.1)
by_layer at (TypedExpr-F.Not x) = by_parts at (TypedExpr-F.Not x.0) (whole (type_of at x.0) 0 not_type (λ u. tested (is_truth u.kind) truth))
by_layer at (TypedExpr-F.Binary o x y) = by_parts at (TypedExpr-F.Binary o x.0 y.0) (binary o (type_of at x.0) (type_of at y.0) (scale_of x.0) (scale_of y.0) x.1 y.1)
by_layer at (TypedExpr-F.Divide x s n) = by_parts at (TypedExpr-F.Divide x.0 s n) (kept (type_of at x.0) (scale_of x.0) (λ u. then_some (not (n == 0) && is_number u.kind) u) (λ u. tested (not (n == 0) && is_number u.kind) u) x.1)
by_layer at (TypedExpr-F.Between p x y z) =
    by_parts at (TypedExpr-F.Between p x.0 y.0 z.0)
    (whole (type_of at x.0) 0 (λ u. with_types (type_of at y.0 ∷ type_of at z.0 ∷ []) (tested_type u)) (λ u. whole (all_types (type_of at y.0 ∷ type_of at z.0 ∷ [])) 0 (tested_type u) (λ us. tested (list_all (compares_with u) us) truth)))
by_layer at (TypedExpr-F.In p x ys) =
    by_parts at (TypedExpr-F.In p x.0 (exprs at ys))
    (whole (type_of at x.0) 0 (λ u. with_types (map (type_of at) (exprs at ys)) (tested_type u)) (λ u. whole (all_types (map (type_of at) (exprs at ys))) 0 (tested_type u) (λ us. tested (list_all (compares_with u) us) truth)))
by_layer at (TypedExpr-F.IsNull p x) = by_parts at (TypedExpr-F.IsNull p x.0) (whole (type_of at x.0) 0 null_test_type (λ u. tested (not (is_truth u.kind)) truth))
by_layer at (TypedExpr-F.Coalesce x ys) = by_parts at (TypedExpr-F.Coalesce x.0 (exprs at ys)) (choice at (type_of at x.0) (scale_of x.0) ys x.1)

pub scale_law : ScaleLaw
scale_law at = ind-TypedExpr (IsScaled at) (λ x y is. subst (λ z. IsScaled at (roll-TypedExpr z)) is (by_layer at y))
