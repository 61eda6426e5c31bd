-- The least number of tokens that an expression takes as it is written, by its form.
use Rattle.std.proofs.Common.{◌≡◌, ℕ, ℤ, ◌+◌, List, sym, ap, ◌∙◌}
use Rattle.query_trees.specs.declared.expr.AggregateKind.{AggregateKind}
use Rattle.query_trees.specs.declared.expr.BinaryOp.{BinaryOp}
use Rattle.query_trees.specs.declared.expr.ColumnName.{ColumnName}
use Rattle.query_trees.specs.declared.expr.Divisor.{Divisor}
use Rattle.query_trees.specs.declared.expr.Polarity.{Polarity}
use Rattle.query_trees.specs.declared.expr.Sign.{Sign}
use Rattle.query_trees.specs.declared.expr.Expr.{Expr, fold-Expr, fold_out-Expr}
use Rattle.query_trees.specs.declared.expr.Form.{Form, Form-F, fold-Form, fold-roll-Form}
use Rattle.query_trees.specs.declared.expr.Form.TheVariants as f
use Rattle.query_trees.specs.declared.expr.Form.TheVariants.{rolls-Number, rolls-Text, rolls-Date, rolls-Column, rolls-CountAll, rolls-Aggregate, rolls-Enclosed, rolls-Signed, rolls-Not, rolls-Binary, rolls-Divide, rolls-Between, rolls-In, rolls-IsNull, rolls-Coalesce}
use Rattle.query_trees.specs.Nodes.{node}
use Rattle.query_sizes.proofs.Totals.{total, total-map}

-- DATE and its text are two; `COUNT(*)` has its parentheses and `*`; an aggregate, an enclosed expression, a list and what COALESCE chooses
-- from have their parentheses; a quotient has its divisor, BETWEEN its AND, and IS its NULL.
abbrev pub form_cost : Form-F ℕ ℕ → ℕ
form_cost (Form-F.Number n scale) = 1
form_cost (Form-F.Text text) = 1
form_cost (Form-F.Date day) = 2
form_cost (Form-F.Column c) = 1
form_cost Form-F.CountAll = 4
form_cost (Form-F.Aggregate of x) = 3 + x
form_cost (Form-F.Enclosed x) = 2 + x
form_cost (Form-F.Signed s x) = 1 + x
form_cost (Form-F.Not x) = 1 + x
form_cost (Form-F.Binary o at x y) = 1 + x + y
form_cost (Form-F.Divide at x d) = 2 + x
form_cost (Form-F.Between p at x y z) = 2 + x + y + z
form_cost (Form-F.In p at x ys) = 3 + x + total (λ n. n) ys
form_cost (Form-F.IsNull p at x) = 2 + x
form_cost (Form-F.Coalesce x ys) = 3 + x + total (λ n. n) ys

unfoldable pub cost : Expr → ℕ
cost = fold-Expr ℕ ℕ form_cost (λ x. x.form)

abbrev pub costs : List Expr → ℕ
costs es = total cost es

unfoldable pub of_form : Form → ℕ
of_form = fold-Form ℕ ℕ form_cost (λ x. x.form)

opens : (e : Expr) → cost e ≡ of_form e.form
unfolding cost of_form
opens e = fold_out-Expr ℕ ℕ form_cost (λ x. x.form) e

-- ---- by form

pub cost-Number : (at n scale : ℕ) → cost (node at (f.Number n scale)) ≡ 1
unfolding of_form
cost-Number at n scale = opens (node at (f.Number n scale)) ∙ ap of_form (sym (rolls-Number n scale)) ∙ fold-roll-Form ℕ ℕ form_cost (λ x. x.form) (Form-F.Number n scale)

pub cost-Text : (at : ℕ) (t : List ℕ) → cost (node at (f.Text t)) ≡ 1
unfolding of_form
cost-Text at t = opens (node at (f.Text t)) ∙ ap of_form (sym (rolls-Text t)) ∙ fold-roll-Form ℕ ℕ form_cost (λ x. x.form) (Form-F.Text t)

pub cost-Date : (at : ℕ) (d : ℤ) → cost (node at (f.Date d)) ≡ 2
unfolding of_form
cost-Date at d = opens (node at (f.Date d)) ∙ ap of_form (sym (rolls-Date d)) ∙ fold-roll-Form ℕ ℕ form_cost (λ x. x.form) (Form-F.Date d)

pub cost-Column : (at : ℕ) (c : ColumnName) → cost (node at (f.Column c)) ≡ 1
unfolding of_form
cost-Column at c = opens (node at (f.Column c)) ∙ ap of_form (sym (rolls-Column c)) ∙ fold-roll-Form ℕ ℕ form_cost (λ x. x.form) (Form-F.Column c)

pub cost-CountAll : (at : ℕ) → cost (node at f.CountAll) ≡ 4
unfolding of_form
cost-CountAll at = opens (node at f.CountAll) ∙ ap of_form (sym rolls-CountAll) ∙ fold-roll-Form ℕ ℕ form_cost (λ x. x.form) Form-F.CountAll

pub cost-Aggregate : (at : ℕ) (of : AggregateKind) (x : Expr) → cost (node at (f.Aggregate of x)) ≡ 3 + cost x
unfolding cost of_form
cost-Aggregate at of x = opens (node at (f.Aggregate of x)) ∙ ap of_form (sym (rolls-Aggregate of x)) ∙ fold-roll-Form ℕ ℕ form_cost (λ x. x.form) (Form-F.Aggregate of x)

pub cost-Enclosed : (at : ℕ) (x : Expr) → cost (node at (f.Enclosed x)) ≡ 2 + cost x
unfolding cost of_form
cost-Enclosed at x = opens (node at (f.Enclosed x)) ∙ ap of_form (sym (rolls-Enclosed x)) ∙ fold-roll-Form ℕ ℕ form_cost (λ x. x.form) (Form-F.Enclosed x)

pub cost-Signed : (at : ℕ) (s : Sign) (x : Expr) → cost (node at (f.Signed s x)) ≡ 1 + cost x
unfolding cost of_form
cost-Signed at s x = opens (node at (f.Signed s x)) ∙ ap of_form (sym (rolls-Signed s x)) ∙ fold-roll-Form ℕ ℕ form_cost (λ x. x.form) (Form-F.Signed s x)

pub cost-Not : (at : ℕ) (x : Expr) → cost (node at (f.Not x)) ≡ 1 + cost x
unfolding cost of_form
cost-Not at x = opens (node at (f.Not x)) ∙ ap of_form (sym (rolls-Not x)) ∙ fold-roll-Form ℕ ℕ form_cost (λ x. x.form) (Form-F.Not x)

pub cost-Binary : (at : ℕ) (o : BinaryOp) (place : ℕ) (x y : Expr) → cost (node at (f.Binary o place x y)) ≡ 1 + cost x + cost y
unfolding cost of_form
cost-Binary at o place x y = opens (node at (f.Binary o place x y)) ∙ ap of_form (sym (rolls-Binary o place x y)) ∙ fold-roll-Form ℕ ℕ form_cost (λ x. x.form) (Form-F.Binary o place x y)

pub cost-Divide : (at place : ℕ) (x : Expr) (d : Divisor) → cost (node at (f.Divide place x d)) ≡ 2 + cost x
unfolding cost of_form
cost-Divide at place x d = opens (node at (f.Divide place x d)) ∙ ap of_form (sym (rolls-Divide place x d)) ∙ fold-roll-Form ℕ ℕ form_cost (λ x. x.form) (Form-F.Divide place x d)

pub cost-Between : (at : ℕ) (p : Polarity) (place : ℕ) (x y z : Expr) → cost (node at (f.Between p place x y z)) ≡ 2 + cost x + cost y + cost z
unfolding cost of_form
cost-Between at p place x y z = opens (node at (f.Between p place x y z)) ∙ ap of_form (sym (rolls-Between p place x y z)) ∙ fold-roll-Form ℕ ℕ form_cost (λ x. x.form) (Form-F.Between p place x y z)

pub cost-In : (at : ℕ) (p : Polarity) (place : ℕ) (x : Expr) (ys : List Expr) → cost (node at (f.In p place x ys)) ≡ 3 + cost x + costs ys
unfolding cost of_form
cost-In at p place x ys = opens (node at (f.In p place x ys)) ∙ ap of_form (sym (rolls-In p place x ys)) ∙ fold-roll-Form ℕ ℕ form_cost (λ x. x.form) (Form-F.In p place x ys) ∙ ap (λ n. 3 + cost x + n) (total-map cost ys)

pub cost-IsNull : (at : ℕ) (p : Polarity) (place : ℕ) (x : Expr) → cost (node at (f.IsNull p place x)) ≡ 2 + cost x
unfolding cost of_form
cost-IsNull at p place x = opens (node at (f.IsNull p place x)) ∙ ap of_form (sym (rolls-IsNull p place x)) ∙ fold-roll-Form ℕ ℕ form_cost (λ x. x.form) (Form-F.IsNull p place x)

pub cost-Coalesce : (at : ℕ) (x : Expr) (ys : List Expr) → cost (node at (f.Coalesce x ys)) ≡ 3 + cost x + costs ys
unfolding cost of_form
cost-Coalesce at x ys = opens (node at (f.Coalesce x ys)) ∙ ap of_form (sym (rolls-Coalesce x ys)) ∙ fold-roll-Form ℕ ℕ form_cost (λ x. x.form) (Form-F.Coalesce x ys) ∙ ap (λ n. 3 + cost x + n) (total-map cost ys)
