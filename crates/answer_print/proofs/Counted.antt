-- Scales that are counted up to 37, over the operands of COALESCE.
use Rattle.std.proofs.Common.{◌≡◌, ℕ, suc, ◌+◌, ◌<◌, List, [], ◌∷◌, map, drop, get_or, length, max, sym, ap, ◌∙◌, arith, add-one, drop-cons}
use Rattle.typed_trees.specs.declared.typed.TypedExpr.{TypedExpr}
use Rattle.typed_trees.specs.declared.typed.TypedExpr.TheVariants as e
use Rattle.typed_trees.specs.Scales.{greatest, scale_of}
use Rattle.typed_values.specs.Narrow.{counted}
use Rattle.typed_trees.proofs.ScaleForms.{scale_Coalesce}

-- what is left of a list begins with its item at that place
pub rest_from : {X : Type 0} (l : List X) (i : ℕ) (y : X) → i < length l → y ≡ get_or l i y → drop i l ≡ y ∷ drop (i + 1) l
rest_from l i y h is = drop-cons l i y h ∙ ((λ j. sym is j ∷ drop (suc i) l) ∙ ap (λ n. y ∷ drop n l) (sym (add-one i)))

greatest_more : (most t : ℕ) (ts : List ℕ) → counted (greatest most (t ∷ ts)) ≡ counted (greatest (max most (counted t)) ts)
greatest_more most t [] = omega arith
greatest_more most t (u ∷ us) = omega arith

pub greatest_next : (most : ℕ) (l : List TypedExpr) (i : ℕ) (y : TypedExpr) (s : ℕ) → i < length l → y ≡ get_or l i y → s ≡ counted (scale_of y) → counted (greatest most (map scale_of (drop i l))) ≡ counted (greatest (max most s) (map scale_of (drop (i + 1) l)))
greatest_next most l i y s h is e =
    ap (λ (r : List TypedExpr). counted (greatest most (map scale_of r))) (rest_from l i y h is)
    ∙ (greatest_more most (scale_of y) (map scale_of (drop (i + 1) l)) ∙ ap (λ t. counted (greatest (max most t) (map scale_of (drop (i + 1) l)))) (sym e))

pub greatest_counted : (first : ℕ) (ts : List ℕ) → counted (greatest first ts) ≡ counted (greatest (counted first) ts)
greatest_counted first [] = omega arith
greatest_counted first (t ∷ ts) = omega arith

pub scale_chosen : (c x : TypedExpr) (ys : List TypedExpr) (s : ℕ) → c ≡ e.Coalesce x ys → s ≡ counted (scale_of x) → counted (greatest s (map scale_of ys)) ≡ counted (scale_of c)
scale_chosen c x ys s is e =
    ap (λ t. counted (greatest t (map scale_of ys))) e
    ∙ (sym (greatest_counted (scale_of x) (map scale_of ys)) ∙ sym (ap counted (ap scale_of is ∙ scale_Coalesce x ys)))
