-- Queries, typed by computation.
use Rattle.std.proofs.Common.{◌≡◌, ℕ, Bool, List, Option, map, refl, sym, ap, ◌∙◌}
use Rattle.query_trees.specs.declared.expr.Expr.{Expr, fold_out-Expr}
use Rattle.query_trees.specs.declared.expr.Form.TheVariants as f
use Rattle.query_trees.specs.declared.expr.Form.{Form, Form-F, fold-Form, fold-roll-Form}
use Rattle.query_trees.specs.declared.expr.Form.TheVariants.{rolls-Number, rolls-Text, rolls-Column, rolls-Aggregate, rolls-Binary, rolls-Divide}
use Rattle.query_trees.specs.declared.expr.AggregateKind.{AggregateKind}
use Rattle.query_trees.specs.declared.expr.Polarity.{Polarity}
use Rattle.query_trees.specs.declared.expr.Sign.{Sign}
use Rattle.query_trees.specs.declared.expr.BinaryOp.{BinaryOp}
use Rattle.query_trees.specs.declared.expr.ColumnName.{ColumnName}
use Rattle.query_trees.specs.declared.expr.Divisor.{Divisor}
use Rattle.query_trees.specs.Nodes.{node}
use Rattle.query_types.specs.Expressions.{form_typer, typer, named, signed, negated, binary, divided, null_test, choice, counted, folded, condition, form_has_aggregate, has_aggregate, form_column, column_alone}
use Rattle.query_types.specs.Grouping.{groups_of, is_grouped}
use Rattle.query_types.specs.Items.{with_value, item}
use Rattle.typed_trees.specs.declared.typed.Aggregate.{Aggregate}
use Rattle.typed_trees.specs.declared.kinds.Role.{Role}
use Rattle.query_types.specs.Names.{Scope, column_in, bare, qualified, resolved, standing, column}
use Rattle.query_types.specs.Ordering.{by_column, by_bare}
use Rattle.query_types.specs.Sources.{opened, linked, paired, linked_on, first, tables_of}
use Rattle.query_types.specs.Sources as sources
use Rattle.query_types.specs.Typing.{answer, typed_over, typed_query}
use Rattle.query_types.specs.Examples.{FirstRefusals, KeyJoin}
use Rattle.query_types.specs.ScaleExamples.{ScaleTable}
use Rattle.query_types.proofs.Typers.{typed-Number, typed-Text, typed-Column, typed-Aggregate, typed-Enclosed, typed-Signed, typed-Binary, typed-Divide, typed-IsNull, typed-Coalesce}

number_typed : (at n scale : ℕ) (s : Scope) (role : Role) (met : List Aggregate) → typer (node at (f.Number n scale)) s role met ≡ form_typer (Form-F.Number n scale) at s role met
number_typed at n scale s role met = ap (λ t. t s role met) (typed-Number (node at (f.Number n scale)) n scale refl)

text_typed : (at : ℕ) (t : List ℕ) (s : Scope) (role : Role) (met : List Aggregate) → typer (node at (f.Text t)) s role met ≡ form_typer (Form-F.Text t) at s role met
text_typed at t s role met = ap (λ t. t s role met) (typed-Text (node at (f.Text t)) t refl)

column_typed : (at : ℕ) (c : ColumnName) (s : Scope) (role : Role) (met : List Aggregate) → typer (node at (f.Column c)) s role met ≡ form_typer (Form-F.Column c) at s role met
column_typed at c s role met = ap (λ t. t s role met) (typed-Column (node at (f.Column c)) c refl)

aggregate_typed : (at : ℕ) (of : AggregateKind) (x : Expr) (s : Scope) (role : Role) (met : List Aggregate) → typer (node at (f.Aggregate of x)) s role met ≡ form_typer (Form-F.Aggregate of (typer x)) at s role met
aggregate_typed at of x s role met = ap (λ t. t s role met) (typed-Aggregate (node at (f.Aggregate of x)) of x refl)

binary_typed : (at : ℕ) (o : BinaryOp) (place : ℕ) (x y : Expr) (s : Scope) (role : Role) (met : List Aggregate) → typer (node at (f.Binary o place x y)) s role met ≡ form_typer (Form-F.Binary o place (typer x) (typer y)) at s role met
binary_typed at o place x y s role met = ap (λ t. t s role met) (typed-Binary (node at (f.Binary o place x y)) o place x y refl)

divide_typed : (at place : ℕ) (x : Expr) (by : Divisor) (s : Scope) (role : Role) (met : List Aggregate) → typer (node at (f.Divide place x by)) s role met ≡ form_typer (Form-F.Divide place (typer x) by) at s role met
divide_typed at place x by s role met = ap (λ t. t s role met) (typed-Divide (node at (f.Divide place x by)) place x by refl)

enclosed_typed : (at : ℕ) (x : Expr) (s : Scope) (role : Role) (met : List Aggregate) → typer (node at (f.Enclosed x)) s role met ≡ form_typer (Form-F.Enclosed (typer x)) at s role met
enclosed_typed at x s role met = ap (λ t. t s role met) (typed-Enclosed (node at (f.Enclosed x)) x refl)

signed_typed : (at : ℕ) (sign : Sign) (x : Expr) (s : Scope) (role : Role) (met : List Aggregate) → typer (node at (f.Signed sign x)) s role met ≡ form_typer (Form-F.Signed sign (typer x)) at s role met
signed_typed at sign x s role met = ap (λ t. t s role met) (typed-Signed (node at (f.Signed sign x)) sign x refl)

null_typed : (at : ℕ) (p : Polarity) (place : ℕ) (x : Expr) (s : Scope) (role : Role) (met : List Aggregate) → typer (node at (f.IsNull p place x)) s role met ≡ form_typer (Form-F.IsNull p place (typer x)) at s role met
null_typed at p place x s role met = ap (λ t. t s role met) (typed-IsNull (node at (f.IsNull p place x)) p place x refl)

choice_typed : (at : ℕ) (x : Expr) (ys : List Expr) (s : Scope) (role : Role) (met : List Aggregate) → typer (node at (f.Coalesce x ys)) s role met ≡ form_typer (Form-F.Coalesce (typer x) (map typer ys)) at s role met
choice_typed at x ys s role met = ap (λ t. t s role met) (typed-Coalesce (node at (f.Coalesce x ys)) x ys refl)

has_form : Form → Bool
has_form = fold-Form Bool Bool form_has_aggregate (λ x. x.form)

has_opens : (x : Expr) → has_aggregate x ≡ has_form x.form
unfolding has_aggregate has_form
has_opens x = fold_out-Expr Bool Bool form_has_aggregate (λ x. x.form) x

number_has : (at n scale : ℕ) → has_aggregate (node at (f.Number n scale)) ≡ form_has_aggregate (Form-F.Number n scale)
unfolding has_aggregate has_form
number_has at n scale = has_opens (node at (f.Number n scale)) ∙ (ap has_form (sym (rolls-Number n scale)) ∙ fold-roll-Form Bool Bool form_has_aggregate (λ x. x.form) (Form-F.Number n scale))

text_has : (at : ℕ) (t : List ℕ) → has_aggregate (node at (f.Text t)) ≡ form_has_aggregate (Form-F.Text t)
unfolding has_aggregate has_form
text_has at t = has_opens (node at (f.Text t)) ∙ (ap has_form (sym (rolls-Text t)) ∙ fold-roll-Form Bool Bool form_has_aggregate (λ x. x.form) (Form-F.Text t))

column_has : (at : ℕ) (c : ColumnName) → has_aggregate (node at (f.Column c)) ≡ form_has_aggregate (Form-F.Column c)
unfolding has_aggregate has_form
column_has at c = has_opens (node at (f.Column c)) ∙ (ap has_form (sym (rolls-Column c)) ∙ fold-roll-Form Bool Bool form_has_aggregate (λ x. x.form) (Form-F.Column c))

binary_has : (at : ℕ) (o : BinaryOp) (place : ℕ) (x y : Expr) → has_aggregate (node at (f.Binary o place x y)) ≡ form_has_aggregate (Form-F.Binary o place (has_aggregate x) (has_aggregate y))
unfolding has_aggregate has_form
binary_has at o place x y = has_opens (node at (f.Binary o place x y)) ∙ (ap has_form (sym (rolls-Binary o place x y)) ∙ fold-roll-Form Bool Bool form_has_aggregate (λ x. x.form) (Form-F.Binary o place x y))

divide_has : (at place : ℕ) (x : Expr) (by : Divisor) → has_aggregate (node at (f.Divide place x by)) ≡ form_has_aggregate (Form-F.Divide place (has_aggregate x) by)
unfolding has_aggregate has_form
divide_has at place x by = has_opens (node at (f.Divide place x by)) ∙ (ap has_form (sym (rolls-Divide place x by)) ∙ fold-roll-Form Bool Bool form_has_aggregate (λ x. x.form) (Form-F.Divide place x by))

stands_form : Form → Option ColumnName
stands_form = fold-Form (Option ColumnName) (Option ColumnName) form_column (λ x. x.form)

stands_opens : (x : Expr) → column_alone x ≡ stands_form x.form
unfolding column_alone stands_form
stands_opens x = fold_out-Expr (Option ColumnName) (Option ColumnName) form_column (λ x. x.form) x

text_stands : (at : ℕ) (t : List ℕ) → column_alone (node at (f.Text t)) ≡ form_column (Form-F.Text t)
unfolding column_alone stands_form
text_stands at t = stands_opens (node at (f.Text t)) ∙ (ap stands_form (sym (rolls-Text t)) ∙ fold-roll-Form (Option ColumnName) (Option ColumnName) form_column (λ x. x.form) (Form-F.Text t))

column_stands : (at : ℕ) (c : ColumnName) → column_alone (node at (f.Column c)) ≡ form_column (Form-F.Column c)
unfolding column_alone stands_form
column_stands at c = stands_opens (node at (f.Column c)) ∙ (ap stands_form (sym (rolls-Column c)) ∙ fold-roll-Form (Option ColumnName) (Option ColumnName) form_column (λ x. x.form) (Form-F.Column c))

binary_stands : (at : ℕ) (o : BinaryOp) (place : ℕ) (x y : Expr) → column_alone (node at (f.Binary o place x y)) ≡ form_column (Form-F.Binary o place (column_alone x) (column_alone y))
unfolding column_alone stands_form
binary_stands at o place x y = stands_opens (node at (f.Binary o place x y)) ∙ (ap stands_form (sym (rolls-Binary o place x y)) ∙ fold-roll-Form (Option ColumnName) (Option ColumnName) form_column (λ x. x.form) (Form-F.Binary o place x y))

divide_stands : (at place : ℕ) (x : Expr) (by : Divisor) → column_alone (node at (f.Divide place x by)) ≡ form_column (Form-F.Divide place (column_alone x) by)
unfolding column_alone stands_form
divide_stands at place x by = stands_opens (node at (f.Divide place x by)) ∙ (ap stands_form (sym (rolls-Divide place x by)) ∙ fold-roll-Form (Option ColumnName) (Option ColumnName) form_column (λ x. x.form) (Form-F.Divide place x by))

pub first_refusals : FirstRefusals
unfolding named signed negated binary divided counted folded condition groups_of is_grouped with_value item column_in bare qualified resolved standing column by_column by_bare opened linked paired linked_on sources.with_join first tables_of answer typed_over typed_query
first_refusals = simp (number_typed, text_typed, column_typed, aggregate_typed, binary_typed, divide_typed, number_has, text_has, column_has, binary_has, divide_has, text_stands, column_stands, binary_stands, divide_stands) refl

pub key_join : KeyJoin
unfolding named folded groups_of is_grouped with_value item column_in bare qualified resolved standing column by_column by_bare opened linked paired linked_on sources.with_join first tables_of answer typed_over typed_query
key_join = simp (column_typed, aggregate_typed, column_stands) refl

pub scales : ScaleTable
unfolding named signed binary divided null_test choice folded column_in bare resolved standing column
scales = simp (number_typed, text_typed, column_typed, aggregate_typed, enclosed_typed, signed_typed, binary_typed, divide_typed, null_typed, choice_typed) refl
