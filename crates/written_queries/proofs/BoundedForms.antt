-- The literals of a form are within bounds where its own and those of its operands are.
use Rattle.std.proofs.Common.{◌≡◌, ◌∙◌, ℕ, ℤ, ◌≤◌, Bool, true, ◌&&◌, List, [], ◌∷◌, map, refl, sym, ap}
use Rattle.std.specs.List.{All, list_all}
use Rattle.std.proofs.lemmas.Bool.{and_from, le-leb}
use Rattle.std.proofs.lemmas.List.Elements.{All-head, All-tail}
use Rattle.std.proofs.lemmas.List.Folds.{list_all-map}
use Rattle.civil_days.specs.Dates.{in_range}
use Rattle.sql_read.specs.Lexis.{max_integer, max_scale}
use Rattle.query_trees.specs.declared.expr.AggregateKind.{AggregateKind}
use Rattle.query_trees.specs.declared.expr.BinaryOp.{BinaryOp}
use Rattle.query_trees.specs.declared.expr.ColumnName.{ColumnName}
use Rattle.query_trees.specs.declared.expr.Divisor.{Divisor}
use Rattle.query_trees.specs.declared.expr.Polarity.{Polarity}
use Rattle.query_trees.specs.declared.expr.Sign.{Sign}
use Rattle.query_trees.specs.declared.expr.Expr.{Expr, fold_out-Expr}
use Rattle.query_trees.specs.declared.expr.Form.{Form, Form-F, roll-Form, map-Form, fold-Form, fold-roll-Form}
use Rattle.query_trees.specs.declared.expr.Form.TheVariants as f
use Rattle.query_trees.specs.declared.expr.Form.TheVariants.{rolls-Number, rolls-Text, rolls-Date, rolls-Column, rolls-CountAll, rolls-Aggregate, rolls-Enclosed, rolls-Signed, rolls-Not, rolls-Binary, rolls-Divide, rolls-Between, rolls-In, rolls-IsNull, rolls-Coalesce}
use Rattle.query_trees.specs.Nodes.{node}
use Rattle.written_queries.specs.Bounds.{form_bounded, is_bounded}

abbrev pub Holds : Expr → Type 0
Holds e = is_bounded e ≡ true

unfoldable pub of_form : Form → Bool
of_form = fold-Form Bool Bool form_bounded (λ x. x.form)

pub opens : (e : Expr) → is_bounded e ≡ of_form e.form
unfolding is_bounded of_form
opens e = fold_out-Expr Bool Bool form_bounded (λ x. x.form) e

-- the literals of a form are its own and those of its operands
pub form_opens : (x : Form-F Form Expr) → of_form (roll-Form x) ≡ form_bounded (map-Form Form Expr Bool Bool of_form is_bounded x)
unfolding is_bounded of_form
form_opens x = fold-roll-Form Bool Bool form_bounded (λ x. x.form) x

-- a node of a form that is rolled from its operands
by_form : (at : ℕ) (form : Form) (x : Form-F Form Expr) → roll-Form x ≡ form → form_bounded (map-Form Form Expr Bool Bool of_form is_bounded x) ≡ true → Holds (node at form)
by_form at form x rolled h = opens (node at form) ∙ (ap of_form (sym rolled) ∙ (form_opens x ∙ h))

all_hold : (ys : List Expr) → All Holds ys → list_all is_bounded ys ≡ true
all_hold [] h = refl
all_hold (y ∷ ys) h = and_from (is_bounded y) (list_all is_bounded ys) (All-head Holds y ys h) (all_hold ys (All-tail Holds y ys h))

among : (x : Expr) (ys : List Expr) → Holds x → All Holds ys → (is_bounded x && list_all (λ y. y) (map is_bounded ys)) ≡ true
among x ys h g = and_from (is_bounded x) (list_all (λ y. y) (map is_bounded ys)) h (list_all-map (λ y. y) is_bounded ys ∙ all_hold ys g)

pub holds_Number : (at n scale : ℕ) → n ≤ max_integer → scale ≤ max_scale → Holds (node at (f.Number n scale))
holds_Number at n scale h g = by_form at (f.Number n scale) (Form-F.Number n scale) (rolls-Number n scale) (and_from _ _ (le-leb n max_integer h) (le-leb scale max_scale g))

pub holds_Text : (at : ℕ) (t : List ℕ) → Holds (node at (f.Text t))
holds_Text at t = by_form at (f.Text t) (Form-F.Text t) (rolls-Text t) refl

pub holds_Date : (at : ℕ) (d : ℤ) → in_range d ≡ true → Holds (node at (f.Date d))
holds_Date at d h = by_form at (f.Date d) (Form-F.Date d) (rolls-Date d) h

pub holds_Column : (at : ℕ) (c : ColumnName) → Holds (node at (f.Column c))
holds_Column at c = by_form at (f.Column c) (Form-F.Column c) (rolls-Column c) refl

pub holds_CountAll : (at : ℕ) → Holds (node at f.CountAll)
holds_CountAll at = by_form at f.CountAll Form-F.CountAll rolls-CountAll refl

pub holds_Aggregate : (at : ℕ) (of : AggregateKind) (x : Expr) → Holds x → Holds (node at (f.Aggregate of x))
holds_Aggregate at of x h = by_form at (f.Aggregate of x) (Form-F.Aggregate of x) (rolls-Aggregate of x) h

pub holds_Enclosed : (at : ℕ) (x : Expr) → Holds x → Holds (node at (f.Enclosed x))
holds_Enclosed at x h = by_form at (f.Enclosed x) (Form-F.Enclosed x) (rolls-Enclosed x) h

pub holds_Signed : (at : ℕ) (s : Sign) (x : Expr) → Holds x → Holds (node at (f.Signed s x))
holds_Signed at s x h = by_form at (f.Signed s x) (Form-F.Signed s x) (rolls-Signed s x) h

pub holds_Not : (at : ℕ) (x : Expr) → Holds x → Holds (node at (f.Not x))
holds_Not at x h = by_form at (f.Not x) (Form-F.Not x) (rolls-Not x) h

pub holds_Binary : (at : ℕ) (o : BinaryOp) (place : ℕ) (x y : Expr) → Holds x → Holds y → Holds (node at (f.Binary o place x y))
holds_Binary at o place x y h g = by_form at (f.Binary o place x y) (Form-F.Binary o place x y) (rolls-Binary o place x y) (and_from (is_bounded x) (is_bounded y) h g)

pub holds_Divide : (at place : ℕ) (x : Expr) (d : Divisor) → Holds x → d.value ≤ max_integer → Holds (node at (f.Divide place x d))
holds_Divide at place x d h g = by_form at (f.Divide place x d) (Form-F.Divide place x d) (rolls-Divide place x d) (and_from (is_bounded x) _ h (le-leb d.value max_integer g))

pub holds_Between : (at : ℕ) (p : Polarity) (place : ℕ) (x y z : Expr) → Holds x → Holds y → Holds z → Holds (node at (f.Between p place x y z))
holds_Between at p place x y z h g i = by_form at (f.Between p place x y z) (Form-F.Between p place x y z) (rolls-Between p place x y z) (and_from (is_bounded x) _ h (and_from (is_bounded y) (is_bounded z) g i))

pub holds_In : (at : ℕ) (p : Polarity) (place : ℕ) (x : Expr) (ys : List Expr) → Holds x → All Holds ys → Holds (node at (f.In p place x ys))
holds_In at p place x ys h g = by_form at (f.In p place x ys) (Form-F.In p place x ys) (rolls-In p place x ys) (among x ys h g)

pub holds_IsNull : (at : ℕ) (p : Polarity) (place : ℕ) (x : Expr) → Holds x → Holds (node at (f.IsNull p place x))
holds_IsNull at p place x h = by_form at (f.IsNull p place x) (Form-F.IsNull p place x) (rolls-IsNull p place x) h

pub holds_Coalesce : (at : ℕ) (x : Expr) (ys : List Expr) → Holds x → All Holds ys → Holds (node at (f.Coalesce x ys))
holds_Coalesce at x ys h g = by_form at (f.Coalesce x ys) (Form-F.Coalesce x ys) (rolls-Coalesce x ys) (among x ys h g)
