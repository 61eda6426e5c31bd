-- The typing of each form, by the typing of its operands.
use Rattle.std.proofs.Common.{◌≡◌, ℕ, ℤ, List, map, sym, ap, ◌∙◌}
use Rattle.query_trees.specs.declared.expr.Expr.{Expr, fold_out-Expr}
use Rattle.query_trees.specs.declared.expr.Form.{Form, Form-F, fold-Form, fold-roll-Form}
use Rattle.query_trees.specs.declared.expr.Form.TheVariants as f
use Rattle.query_trees.specs.declared.expr.Form.TheVariants.{rolls-Number, rolls-Text, rolls-Date, rolls-Column, rolls-CountAll, rolls-Aggregate, rolls-Enclosed, rolls-Signed, rolls-Not, rolls-Binary, rolls-Divide, rolls-Between, rolls-In, rolls-IsNull, rolls-Coalesce}
use Rattle.query_trees.specs.declared.expr.AggregateKind.{AggregateKind}
use Rattle.query_trees.specs.declared.expr.BinaryOp.{BinaryOp}
use Rattle.query_trees.specs.declared.expr.ColumnName.{ColumnName}
use Rattle.query_trees.specs.declared.expr.Divisor.{Divisor}
use Rattle.query_trees.specs.declared.expr.Polarity.{Polarity}
use Rattle.query_trees.specs.declared.expr.Sign.{Sign}
use Rattle.query_types.specs.Expressions.{Typer, form_typer, expr_typer, typer}

abbrev pub form_typed : Form → ℕ → Typer
form_typed = fold-Form (ℕ → Typer) Typer form_typer expr_typer

pub typer-opens : (x : Expr) → typer x ≡ form_typed x.form x.at
unfolding typer
typer-opens x = fold_out-Expr (ℕ → Typer) Typer form_typer expr_typer x

opened : (x : Expr) (form : Form) (T : ℕ → Typer) → x.form ≡ form → form_typed form ≡ T → typer x ≡ T x.at
opened x form T is law = typer-opens x ∙ ap (λ g. form_typed g x.at) is ∙ ap (λ g. g x.at) law

form-Number : (n scale : ℕ) → form_typed (f.Number n scale) ≡ form_typer (Form-F.Number n scale)
unfolding typer
form-Number n scale = ap form_typed (sym (rolls-Number n scale)) ∙ fold-roll-Form (ℕ → Typer) Typer form_typer expr_typer (Form-F.Number n scale)

pub typed-Number : (e : Expr) (n scale : ℕ) → e.form ≡ (f.Number n scale) → typer e ≡ form_typer (Form-F.Number n scale) e.at
typed-Number e n scale is = opened e (f.Number n scale) (form_typer (Form-F.Number n scale)) is (form-Number n scale)

form-Text : (t : List ℕ) → form_typed (f.Text t) ≡ form_typer (Form-F.Text t)
unfolding typer
form-Text t = ap form_typed (sym (rolls-Text t)) ∙ fold-roll-Form (ℕ → Typer) Typer form_typer expr_typer (Form-F.Text t)

pub typed-Text : (e : Expr) (t : List ℕ) → e.form ≡ (f.Text t) → typer e ≡ form_typer (Form-F.Text t) e.at
typed-Text e t is = opened e (f.Text t) (form_typer (Form-F.Text t)) is (form-Text t)

form-Date : (d : ℤ) → form_typed (f.Date d) ≡ form_typer (Form-F.Date d)
unfolding typer
form-Date d = ap form_typed (sym (rolls-Date d)) ∙ fold-roll-Form (ℕ → Typer) Typer form_typer expr_typer (Form-F.Date d)

pub typed-Date : (e : Expr) (d : ℤ) → e.form ≡ (f.Date d) → typer e ≡ form_typer (Form-F.Date d) e.at
typed-Date e d is = opened e (f.Date d) (form_typer (Form-F.Date d)) is (form-Date d)

form-Column : (c : ColumnName) → form_typed (f.Column c) ≡ form_typer (Form-F.Column c)
unfolding typer
form-Column c = ap form_typed (sym (rolls-Column c)) ∙ fold-roll-Form (ℕ → Typer) Typer form_typer expr_typer (Form-F.Column c)

pub typed-Column : (e : Expr) (c : ColumnName) → e.form ≡ (f.Column c) → typer e ≡ form_typer (Form-F.Column c) e.at
typed-Column e c is = opened e (f.Column c) (form_typer (Form-F.Column c)) is (form-Column c)

form-CountAll : form_typed f.CountAll ≡ form_typer Form-F.CountAll
unfolding typer
form-CountAll = ap form_typed (sym rolls-CountAll) ∙ fold-roll-Form (ℕ → Typer) Typer form_typer expr_typer Form-F.CountAll

pub typed-CountAll : (e : Expr) → e.form ≡ f.CountAll → typer e ≡ form_typer Form-F.CountAll e.at
typed-CountAll e is = opened e f.CountAll (form_typer Form-F.CountAll) is form-CountAll

form-Aggregate : (of : AggregateKind) (x : Expr) → form_typed (f.Aggregate of x) ≡ form_typer (Form-F.Aggregate of (typer x))
unfolding typer
form-Aggregate of x = ap form_typed (sym (rolls-Aggregate of x)) ∙ fold-roll-Form (ℕ → Typer) Typer form_typer expr_typer (Form-F.Aggregate of x)

pub typed-Aggregate : (e : Expr) (of : AggregateKind) (x : Expr) → e.form ≡ (f.Aggregate of x) → typer e ≡ form_typer (Form-F.Aggregate of (typer x)) e.at
typed-Aggregate e of x is = opened e (f.Aggregate of x) (form_typer (Form-F.Aggregate of (typer x))) is (form-Aggregate of x)

form-Enclosed : (x : Expr) → form_typed (f.Enclosed x) ≡ form_typer (Form-F.Enclosed (typer x))
unfolding typer
form-Enclosed x = ap form_typed (sym (rolls-Enclosed x)) ∙ fold-roll-Form (ℕ → Typer) Typer form_typer expr_typer (Form-F.Enclosed x)

pub typed-Enclosed : (e : Expr) (x : Expr) → e.form ≡ (f.Enclosed x) → typer e ≡ form_typer (Form-F.Enclosed (typer x)) e.at
typed-Enclosed e x is = opened e (f.Enclosed x) (form_typer (Form-F.Enclosed (typer x))) is (form-Enclosed x)

form-Signed : (s : Sign) (x : Expr) → form_typed (f.Signed s x) ≡ form_typer (Form-F.Signed s (typer x))
unfolding typer
form-Signed s x = ap form_typed (sym (rolls-Signed s x)) ∙ fold-roll-Form (ℕ → Typer) Typer form_typer expr_typer (Form-F.Signed s x)

pub typed-Signed : (e : Expr) (s : Sign) (x : Expr) → e.form ≡ (f.Signed s x) → typer e ≡ form_typer (Form-F.Signed s (typer x)) e.at
typed-Signed e s x is = opened e (f.Signed s x) (form_typer (Form-F.Signed s (typer x))) is (form-Signed s x)

form-Not : (x : Expr) → form_typed (f.Not x) ≡ form_typer (Form-F.Not (typer x))
unfolding typer
form-Not x = ap form_typed (sym (rolls-Not x)) ∙ fold-roll-Form (ℕ → Typer) Typer form_typer expr_typer (Form-F.Not x)

pub typed-Not : (e : Expr) (x : Expr) → e.form ≡ (f.Not x) → typer e ≡ form_typer (Form-F.Not (typer x)) e.at
typed-Not e x is = opened e (f.Not x) (form_typer (Form-F.Not (typer x))) is (form-Not x)

form-Binary : (o : BinaryOp) (at : ℕ) (x y : Expr) → form_typed (f.Binary o at x y) ≡ form_typer (Form-F.Binary o at (typer x) (typer y))
unfolding typer
form-Binary o at x y = ap form_typed (sym (rolls-Binary o at x y)) ∙ fold-roll-Form (ℕ → Typer) Typer form_typer expr_typer (Form-F.Binary o at x y)

pub typed-Binary : (e : Expr) (o : BinaryOp) (at : ℕ) (x y : Expr) → e.form ≡ (f.Binary o at x y) → typer e ≡ form_typer (Form-F.Binary o at (typer x) (typer y)) e.at
typed-Binary e o at x y is = opened e (f.Binary o at x y) (form_typer (Form-F.Binary o at (typer x) (typer y))) is (form-Binary o at x y)

form-Divide : (at : ℕ) (x : Expr) (d : Divisor) → form_typed (f.Divide at x d) ≡ form_typer (Form-F.Divide at (typer x) d)
unfolding typer
form-Divide at x d = ap form_typed (sym (rolls-Divide at x d)) ∙ fold-roll-Form (ℕ → Typer) Typer form_typer expr_typer (Form-F.Divide at x d)

pub typed-Divide : (e : Expr) (at : ℕ) (x : Expr) (d : Divisor) → e.form ≡ (f.Divide at x d) → typer e ≡ form_typer (Form-F.Divide at (typer x) d) e.at
typed-Divide e at x d is = opened e (f.Divide at x d) (form_typer (Form-F.Divide at (typer x) d)) is (form-Divide at x d)

form-Between : (p : Polarity) (at : ℕ) (x y z : Expr) → form_typed (f.Between p at x y z) ≡ form_typer (Form-F.Between p at (typer x) (typer y) (typer z))
unfolding typer
form-Between p at x y z = ap form_typed (sym (rolls-Between p at x y z)) ∙ fold-roll-Form (ℕ → Typer) Typer form_typer expr_typer (Form-F.Between p at x y z)

pub typed-Between : (e : Expr) (p : Polarity) (at : ℕ) (x y z : Expr) → e.form ≡ (f.Between p at x y z) → typer e ≡ form_typer (Form-F.Between p at (typer x) (typer y) (typer z)) e.at
typed-Between e p at x y z is = opened e (f.Between p at x y z) (form_typer (Form-F.Between p at (typer x) (typer y) (typer z))) is (form-Between p at x y z)

form-In : (p : Polarity) (at : ℕ) (x : Expr) (ys : List Expr) → form_typed (f.In p at x ys) ≡ form_typer (Form-F.In p at (typer x) (map typer ys))
unfolding typer
form-In p at x ys = ap form_typed (sym (rolls-In p at x ys)) ∙ fold-roll-Form (ℕ → Typer) Typer form_typer expr_typer (Form-F.In p at x ys)

pub typed-In : (e : Expr) (p : Polarity) (at : ℕ) (x : Expr) (ys : List Expr) → e.form ≡ (f.In p at x ys) → typer e ≡ form_typer (Form-F.In p at (typer x) (map typer ys)) e.at
typed-In e p at x ys is = opened e (f.In p at x ys) (form_typer (Form-F.In p at (typer x) (map typer ys))) is (form-In p at x ys)

form-IsNull : (p : Polarity) (at : ℕ) (x : Expr) → form_typed (f.IsNull p at x) ≡ form_typer (Form-F.IsNull p at (typer x))
unfolding typer
form-IsNull p at x = ap form_typed (sym (rolls-IsNull p at x)) ∙ fold-roll-Form (ℕ → Typer) Typer form_typer expr_typer (Form-F.IsNull p at x)

pub typed-IsNull : (e : Expr) (p : Polarity) (at : ℕ) (x : Expr) → e.form ≡ (f.IsNull p at x) → typer e ≡ form_typer (Form-F.IsNull p at (typer x)) e.at
typed-IsNull e p at x is = opened e (f.IsNull p at x) (form_typer (Form-F.IsNull p at (typer x))) is (form-IsNull p at x)

form-Coalesce : (x : Expr) (ys : List Expr) → form_typed (f.Coalesce x ys) ≡ form_typer (Form-F.Coalesce (typer x) (map typer ys))
unfolding typer
form-Coalesce x ys = ap form_typed (sym (rolls-Coalesce x ys)) ∙ fold-roll-Form (ℕ → Typer) Typer form_typer expr_typer (Form-F.Coalesce x ys)

pub typed-Coalesce : (e x : Expr) (ys : List Expr) → e.form ≡ (f.Coalesce x ys) → typer e ≡ form_typer (Form-F.Coalesce (typer x) (map typer ys)) e.at
typed-Coalesce e x ys is = opened e (f.Coalesce x ys) (form_typer (Form-F.Coalesce (typer x) (map typer ys))) is (form-Coalesce x ys)
