-- Whether an aggregate is written in a list's elements.
use Rattle.std.proofs.Common.{◌≡◌, ℕ, Bool, ◌||◌, List, [], ◌∷◌, map, refl, sym, ap, ◌∙◌}
use Rattle.std.specs.List.{list_any}
use Rattle.query_trees.specs.declared.expr.Expr.{Expr, fold_out-Expr}
use Rattle.query_trees.specs.declared.expr.Form.{Form, Form-F, fold-Form, fold-roll-Form}
use Rattle.query_trees.specs.declared.expr.Form.TheVariants as f
use Rattle.query_trees.specs.declared.expr.Form.TheVariants.{rolls-In, rolls-Coalesce}
use Rattle.query_trees.specs.declared.expr.Polarity.{Polarity}
use Rattle.query_types.specs.Expressions.{form_has_aggregate, has_aggregate}

any-map : (g : Expr → Bool) (ys : List Expr) → list_any (λ y. y) (map g ys) ≡ list_any g ys
any-map g [] = refl
any-map g (y ∷ ys) = ap (λ b. g y || b) (any-map g ys)

of_form : Form → Bool
of_form = fold-Form Bool Bool form_has_aggregate (λ x. x.form)

opens : (e : Expr) → has_aggregate e ≡ of_form e.form
unfolding has_aggregate of_form
opens e = fold_out-Expr Bool Bool form_has_aggregate (λ x. x.form) e

of-In : (p : Polarity) (at : ℕ) (x : Expr) (ys : List Expr) → of_form (f.In p at x ys) ≡ has_aggregate x || list_any (λ y. y) (map has_aggregate ys)
unfolding has_aggregate of_form
of-In p at x ys = ap of_form (sym (rolls-In p at x ys)) ∙ fold-roll-Form Bool Bool form_has_aggregate (λ y. y.form) (Form-F.In p at x ys)

pub has-In : (e : Expr) (p : Polarity) (at : ℕ) (x : Expr) (ys : List Expr) → e.form ≡ f.In p at x ys → has_aggregate e ≡ has_aggregate x || list_any (λ y. has_aggregate y) ys
has-In e p at x ys is = opens e ∙ ap of_form is ∙ of-In p at x ys ∙ ap (λ b. has_aggregate x || b) (any-map (λ y. has_aggregate y) ys)

of-Coalesce : (x : Expr) (ys : List Expr) → of_form (f.Coalesce x ys) ≡ has_aggregate x || list_any (λ y. y) (map has_aggregate ys)
unfolding has_aggregate of_form
of-Coalesce x ys = ap of_form (sym (rolls-Coalesce x ys)) ∙ fold-roll-Form Bool Bool form_has_aggregate (λ y. y.form) (Form-F.Coalesce x ys)

pub has-Coalesce : (e x : Expr) (ys : List Expr) → e.form ≡ f.Coalesce x ys → has_aggregate e ≡ has_aggregate x || list_any (λ y. has_aggregate y) ys
has-Coalesce e x ys is = opens e ∙ ap of_form is ∙ of-Coalesce x ys ∙ ap (λ b. has_aggregate x || b) (any-map (λ y. has_aggregate y) ys)
