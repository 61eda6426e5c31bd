-- The numbers of a form are within bounds where its own and those of its operands are.
use Rattle.std.proofs.Common.{◌≡◌, ◌∙◌, ℕ, ℤ, ◌≤◌, Bool, true, ◌&&◌, List, [], ◌∷◌, map, refl, sym, ap}
use Rattle.std.specs.List.{list_all}
use Rattle.std.proofs.lemmas.Bool.{and_from, le-leb}
use Rattle.std.proofs.lemmas.List.Folds.{list_all-map}
use Rattle.sql_read.specs.Lexis.{max_integer, max_scale}
use Rattle.query_trees.specs.declared.expr.AggregateKind.{AggregateKind}
use Rattle.query_trees.specs.declared.expr.BinaryOp.{BinaryOp}
use Rattle.query_trees.specs.declared.expr.ColumnName.{ColumnName}
use Rattle.query_trees.specs.declared.expr.Divisor.{Divisor}
use Rattle.query_trees.specs.declared.expr.Polarity.{Polarity}
use Rattle.query_trees.specs.declared.expr.Sign.{Sign}
use Rattle.query_trees.specs.declared.expr.Expr.{Expr, fold_out-Expr}
use Rattle.query_trees.specs.declared.expr.Form.{Form, Form-F, roll-Form, map-Form, fold-Form, fold-roll-Form}
use Rattle.query_trees.specs.declared.expr.Form.TheVariants as f
use Rattle.query_trees.specs.declared.expr.Form.TheVariants.{rolls-Number, rolls-Text, rolls-Date, rolls-Column, rolls-CountAll, rolls-Aggregate, rolls-Enclosed, rolls-Signed, rolls-Not, rolls-Binary, rolls-Divide, rolls-Between, rolls-In, rolls-IsNull, rolls-Coalesce}
use Rattle.query_trees.specs.Nodes.{node}
use Rattle.query_read.specs.Numbers.{form_measured, is_measured}
use Rattle.query_read.proofs.Keeping.{Each}

abbrev pub Holds : Expr → Type 0
Holds e = is_measured e ≡ true

unfoldable of_form : Form → Bool
of_form = fold-Form Bool Bool form_measured (λ x. x.form)

opens : (e : Expr) → is_measured e ≡ of_form e.form
unfolding is_measured of_form
opens e = fold_out-Expr Bool Bool form_measured (λ x. x.form) e

-- a node of a form that is rolled from its operands
by_form : (at : ℕ) (form : Form) (x : Form-F Form Expr) → roll-Form x ≡ form → form_measured (map-Form Form Expr Bool Bool of_form is_measured x) ≡ true → Holds (node at form)
unfolding is_measured of_form
by_form at form x rolled h = opens (node at form) ∙ ap of_form (sym rolled) ∙ fold-roll-Form Bool Bool form_measured (λ x. x.form) x ∙ h

all_hold : (ys : List Expr) → Each Holds ys → list_all is_measured ys ≡ true
all_hold [] h = refl
all_hold (y ∷ ys) h = and_from (is_measured y) (list_all is_measured ys) h.0 (all_hold ys h.1)

among : (x : Expr) (ys : List Expr) → Holds x → Each Holds ys → (is_measured x && list_all (λ y. y) (map is_measured ys)) ≡ true
among x ys h g = and_from (is_measured x) (list_all (λ y. y) (map is_measured ys)) h (list_all-map (λ y. y) is_measured ys ∙ all_hold ys g)

pub holds-Number : (at n scale : ℕ) → n ≤ max_integer → scale ≤ max_scale → Holds (node at (f.Number n scale))
holds-Number at n scale h g = by_form at (f.Number n scale) (Form-F.Number n scale) (rolls-Number n scale) (and_from _ _ (le-leb n max_integer h) (le-leb scale max_scale g))

pub holds-Text : (at : ℕ) (t : List ℕ) → Holds (node at (f.Text t))
holds-Text at t = by_form at (f.Text t) (Form-F.Text t) (rolls-Text t) refl

pub holds-Date : (at : ℕ) (d : ℤ) → Holds (node at (f.Date d))
holds-Date at d = by_form at (f.Date d) (Form-F.Date d) (rolls-Date d) refl

pub holds-Column : (at : ℕ) (c : ColumnName) → Holds (node at (f.Column c))
holds-Column at c = by_form at (f.Column c) (Form-F.Column c) (rolls-Column c) refl

pub holds-CountAll : (at : ℕ) → Holds (node at f.CountAll)
holds-CountAll at = by_form at f.CountAll Form-F.CountAll rolls-CountAll refl

pub holds-Aggregate : (at : ℕ) (of : AggregateKind) (x : Expr) → Holds x → Holds (node at (f.Aggregate of x))
holds-Aggregate at of x h = by_form at (f.Aggregate of x) (Form-F.Aggregate of x) (rolls-Aggregate of x) h

pub holds-Enclosed : (at : ℕ) (x : Expr) → Holds x → Holds (node at (f.Enclosed x))
holds-Enclosed at x h = by_form at (f.Enclosed x) (Form-F.Enclosed x) (rolls-Enclosed x) h

pub holds-Signed : (at : ℕ) (s : Sign) (x : Expr) → Holds x → Holds (node at (f.Signed s x))
holds-Signed at s x h = by_form at (f.Signed s x) (Form-F.Signed s x) (rolls-Signed s x) h

pub holds-Not : (at : ℕ) (x : Expr) → Holds x → Holds (node at (f.Not x))
holds-Not at x h = by_form at (f.Not x) (Form-F.Not x) (rolls-Not x) h

pub holds-Binary : (at : ℕ) (o : BinaryOp) (place : ℕ) (x y : Expr) → Holds x → Holds y → Holds (node at (f.Binary o place x y))
holds-Binary at o place x y h g = by_form at (f.Binary o place x y) (Form-F.Binary o place x y) (rolls-Binary o place x y) (and_from (is_measured x) (is_measured y) h g)

pub holds-Divide : (at place : ℕ) (x : Expr) (d : Divisor) → Holds x → d.value ≤ max_integer → Holds (node at (f.Divide place x d))
holds-Divide at place x d h g = by_form at (f.Divide place x d) (Form-F.Divide place x d) (rolls-Divide place x d) (and_from (is_measured x) _ h (le-leb d.value max_integer g))

pub holds-Between : (at : ℕ) (p : Polarity) (place : ℕ) (x y z : Expr) → Holds x → Holds y → Holds z → Holds (node at (f.Between p place x y z))
holds-Between at p place x y z h g i = by_form at (f.Between p place x y z) (Form-F.Between p place x y z) (rolls-Between p place x y z) (and_from (is_measured x) _ h (and_from (is_measured y) (is_measured z) g i))

pub holds-In : (at : ℕ) (p : Polarity) (place : ℕ) (x : Expr) (ys : List Expr) → Holds x → Each Holds ys → Holds (node at (f.In p place x ys))
holds-In at p place x ys h g = by_form at (f.In p place x ys) (Form-F.In p place x ys) (rolls-In p place x ys) (among x ys h g)

pub holds-IsNull : (at : ℕ) (p : Polarity) (place : ℕ) (x : Expr) → Holds x → Holds (node at (f.IsNull p place x))
holds-IsNull at p place x h = by_form at (f.IsNull p place x) (Form-F.IsNull p place x) (rolls-IsNull p place x) h

pub holds-Coalesce : (at : ℕ) (x : Expr) (ys : List Expr) → Holds x → Each Holds ys → Holds (node at (f.Coalesce x ys))
holds-Coalesce at x ys h g = by_form at (f.Coalesce x ys) (Form-F.Coalesce x ys) (rolls-Coalesce x ys) (among x ys h g)
