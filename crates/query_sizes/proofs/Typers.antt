-- Every expression is typed within what it costs.
use Rattle.std.proofs.Common.{◌≡◌, ℕ, ◌+◌, refl, sym, ap, ◌∙◌, subst}
use Rattle.query_trees.specs.declared.expr.Expr.{Expr, Expr-F, roll-Expr, map-Expr, fold-roll-Expr, ind-Expr}
use Rattle.query_trees.specs.declared.expr.Form.{Form, Form-F, roll-Form, map-Form, fold-roll-Form}
use Rattle.query_types.specs.Expressions.{Typer, form_typer, expr_typer, typer}
use Rattle.query_types.proofs.Typers.{form_typed}
use Rattle.query_sizes.proofs.Totals.{total-map}
use Rattle.query_sizes.proofs.Costs.{form_cost, cost, costs, of_form}
use Rattle.query_sizes.proofs.Forms.{Within, exprs, within_number, within_text, within_date, within_column, within_count, within_aggregate, within_enclosed, within_signed, within_not, within_binary, within_divide, within_between, within_in, within_null, within_coalesce}

abbrev IsWithin : Expr → Type 0
IsWithin x = Within (cost x) (typer x)

abbrev FormIsWithin : Form → Type 0
FormIsWithin form = (at : ℕ) → Within (of_form form) (form_typed form at)

by_costs : (form : Form) (c : ℕ) (T : ℕ → Typer) → of_form form ≡ c → form_typed form ≡ T → ((at : ℕ) → Within c (T at)) → FormIsWithin form
by_costs form c T costs types h at = subst (λ n. Within n (form_typed form at)) (sym costs) (subst (λ (t : ℕ → Typer). Within c (t at)) (sym types) (h at))

-- the same for a layer, by its operands
abbrev Layer : Type 0
Layer = Form-F ((x : Form) × FormIsWithin x) ((x : Expr) × IsWithin x)

abbrev opened : Layer → Form-F Form Expr
opened y = map-Form ((x : Form) × FormIsWithin x) ((x : Expr) × IsWithin x) Form Expr (λ e. e.0) (λ e. e.0) y

layer_cost : (x : Form-F Form Expr) → of_form (roll-Form x) ≡ form_cost (map-Form Form Expr ℕ ℕ of_form cost x)
unfolding of_form cost
layer_cost x = fold-roll-Form ℕ ℕ form_cost (λ x. x.form) x

layer_typed : (x : Form-F Form Expr) → form_typed (roll-Form x) ≡ form_typer (map-Form Form Expr (ℕ → Typer) Typer form_typed typer x)
unfolding typer
layer_typed x = fold-roll-Form (ℕ → Typer) Typer form_typer expr_typer x

-- what a layer costs and how it is typed, put together
by_parts : (x : Form-F Form Expr) (c : ℕ) → form_cost (map-Form Form Expr ℕ ℕ of_form cost x) ≡ c → ((at : ℕ) → Within c (form_typer (map-Form Form Expr (ℕ → Typer) Typer form_typed typer x) at)) → FormIsWithin (roll-Form x)
by_parts x c is h = by_costs (roll-Form x) c (form_typer (map-Form Form Expr (ℕ → Typer) Typer form_typed typer x)) (layer_cost x ∙ is) (layer_typed x) h

by_layer : (y : Layer) → FormIsWithin (roll-Form (opened y))
by_layer (Form-F.Number n scale) = by_parts (Form-F.Number n scale) 1 refl (within_number n scale)
by_layer (Form-F.Text text) = by_parts (Form-F.Text text) 1 refl (within_text text)
by_layer (Form-F.Date day) = by_parts (Form-F.Date day) 2 refl (within_date day)
by_layer (Form-F.Column c) = by_parts (Form-F.Column c) 1 refl (within_column c)
by_layer Form-F.CountAll = by_parts Form-F.CountAll 4 refl within_count
by_layer (Form-F.Aggregate of x) = by_parts (Form-F.Aggregate of x.0) (3 + cost x.0) refl (λ at. within_aggregate of at (cost x.0) (typer x.0) x.1)
by_layer (Form-F.Enclosed x) = by_parts (Form-F.Enclosed x.0) (2 + cost x.0) refl (λ at. within_enclosed at (cost x.0) (typer x.0) x.1)
by_layer (Form-F.Signed s x) = by_parts (Form-F.Signed s x.0) (1 + cost x.0) refl (λ at. within_signed s at (cost x.0) (typer x.0) x.1)
by_layer (Form-F.Not x) = by_parts (Form-F.Not x.0) (1 + cost x.0) refl (λ at. within_not at (cost x.0) (typer x.0) x.1)
by_layer (Form-F.Binary o place x y) = by_parts (Form-F.Binary o place x.0 y.0) (1 + cost x.0 + cost y.0) refl (λ at. within_binary o place at (cost x.0) (cost y.0) (typer x.0) (typer y.0) x.1 y.1)
by_layer (Form-F.Divide place x d) = by_parts (Form-F.Divide place x.0 d) (2 + cost x.0) refl (λ at. within_divide place d at (cost x.0) (typer x.0) x.1)
by_layer (Form-F.Between p place x y z) = by_parts (Form-F.Between p place x.0 y.0 z.0) (2 + cost x.0 + cost y.0 + cost z.0) refl (λ at. within_between p place at (cost x.0) (cost y.0) (cost z.0) (typer x.0) (typer y.0) (typer z.0) x.1 y.1 z.1)
by_layer (Form-F.In p place x ys) =
    by_parts (Form-F.In p place x.0 (exprs ys)) (3 + cost x.0 + costs (exprs ys)) (ap (λ n. 3 + cost x.0 + n) (total-map cost (exprs ys)))
    (λ at. within_in p place at (cost x.0) (typer x.0) ys x.1)
by_layer (Form-F.IsNull p place x) = by_parts (Form-F.IsNull p place x.0) (2 + cost x.0) refl (λ at. within_null p place at (cost x.0) (typer x.0) x.1)
by_layer (Form-F.Coalesce x ys) =
    by_parts (Form-F.Coalesce x.0 (exprs ys)) (3 + cost x.0 + costs (exprs ys)) (ap (λ n. 3 + cost x.0 + n) (total-map cost (exprs ys)))
    (λ at. within_coalesce at (cost x.0) (typer x.0) ys x.1)

-- an expression is its form at a byte
by_form : (y : Expr-F ((x : Form) × FormIsWithin x) ((x : Expr) × IsWithin x)) → IsWithin (roll-Expr (map-Expr ((x : Form) × FormIsWithin x) ((x : Expr) × IsWithin x) Form Expr (λ e. e.0) (λ e. e.0) y))
unfolding cost of_form typer
by_form y =
    let x = map-Expr ((x : Form) × FormIsWithin x) ((x : Expr) × IsWithin x) Form Expr (λ e. e.0) (λ e. e.0) y in
    let costs : cost (roll-Expr x) ≡ of_form y.form.0 = fold-roll-Expr ℕ ℕ form_cost (λ x. x.form) x in
    let types : typer (roll-Expr x) ≡ form_typed y.form.0 y.at = fold-roll-Expr (ℕ → Typer) Typer form_typer expr_typer x in
    subst (λ n. Within n (typer (roll-Expr x))) (sym costs) (subst (λ (T : Typer). Within (of_form y.form.0) T) (sym types) (y.form.1 y.at))

pub typed_within : (x : Expr) → Within (cost x) (typer x)
typed_within = ind-Expr FormIsWithin IsWithin (λ x y is. subst (λ z. FormIsWithin (roll-Form z)) is (by_layer y)) (λ x y is. subst (λ z. IsWithin (roll-Expr z)) is (by_form y))
