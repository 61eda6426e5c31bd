-- The typing of each expression comes to a value or a refusal.
use Rattle.std.proofs.Common.{◌≡◌, ℕ, suc, List, [], ◌∷◌, ◌++◌, length, map, Some, None, sym, subst}
use Rattle.query_trees.specs.declared.expr.AggregateKind.{AggregateKind as Written}
use Rattle.query_trees.specs.declared.expr.BinaryOp.{BinaryOp}
use Rattle.query_trees.specs.declared.expr.Divisor.{Divisor}
use Rattle.query_trees.specs.declared.expr.Polarity.{Polarity}
use Rattle.query_trees.specs.declared.expr.Sign.{Sign}
use Rattle.query_trees.specs.declared.expr.ColumnName.{ColumnName}
use Rattle.query_trees.specs.declared.expr.Expr.{Expr, Expr-F, roll-Expr, map-Expr, fold-roll-Expr, ind-Expr}
use Rattle.query_trees.specs.declared.expr.Form.{Form, Form-F, roll-Form, map-Form, fold-roll-Form}
use Rattle.query_types.specs.declared.refusal.TypeKind.TheVariants.{UnknownTable, UnknownColumn, Ambiguous, NotGrouped, TypesDiffer, NestedAggregate, ZeroDivisor, ScaleTooLarge}
use Rattle.typed_trees.specs.declared.kinds.Kind.{Kind}
use Rattle.typed_trees.specs.declared.kinds.Kind.TheVariants.{Number, Date, Text}
use Rattle.typed_trees.specs.declared.kinds.Role.{Role}
use Rattle.typed_trees.specs.declared.kinds.Role.TheVariants.{Side, Alone}
use Rattle.query_types.specs.declared.scope.Called.{Called}
use Rattle.query_types.specs.declared.scope.Found.{Found}
use Rattle.query_types.specs.declared.scope.Level.{Level}
use Rattle.sql_read.specs.declared.definition.TableDef.{TableDef}
use Rattle.typed_trees.specs.declared.typed.Aggregate.{Aggregate}
use Rattle.typed_trees.specs.declared.typed.TypedExpr.TheVariants as e
use Rattle.query_types.specs.declared.typing.Typed.{Typed}
use Rattle.std.specs.Prelude.{Option}
use Rattle.std.specs.Str.{bytes_eq}
use Rattle.typed_trees.specs.Kinds.{family_of, role_in}
use Rattle.query_types.specs.Names as n
use Rattle.query_types.specs.Names.{Scope, inside}
use Rattle.query_types.specs.Expressions as t
use Rattle.query_types.specs.Expressions.{Typer, typer, form_typer, expr_typer, is_row, each, typed_as}
use Rattle.query_types.proofs.Typers.{form_typed}
use Rattle.run_laws.proofs.TypingSteps.{Answers, answers_value, answers_none, answers_if, answers_either, answers_then, Collects, collects_pure, collects_lift, collects_then}

-- ---- names

only : (at : ℕ) (fs : List Found) → Answers (n.only at fs)
only at [] = answers_none UnknownColumn at
only at (f ∷ []) = answers_value f
only at (f ∷ g ∷ more) = answers_none Ambiguous at

or_unknown : (at : ℕ) (f : Option Found) → Answers (n.or_unknown at f)
or_unknown at (Some f) = answers_value f
or_unknown at None = answers_none UnknownColumn at

in_table : (defs : List TableDef) (c : ColumnName) (q : List ℕ) (s : ℕ) (ts : List Called) → Answers (n.in_table defs c q s ts)
in_table defs c q s [] = answers_none UnknownTable c.at
in_table defs c q s (t ∷ ts) = answers_either (bytes_eq t.name q) (or_unknown c.name_at (n.column_in defs c.name s t)) (in_table defs c q (suc s) ts)

resolved_by : (defs : List TableDef) (tables : List Called) (c : ColumnName) (q : Option (List ℕ)) → Answers (n.resolved_by defs tables c q)
unfolding n.bare n.qualified
resolved_by defs tables c None = only c.name_at (n.holders defs c.name 0 tables)
resolved_by defs tables c (Some q) = in_table defs c q 0 tables

pub resolved : (defs : List TableDef) (tables : List Called) (c : ColumnName) → Answers (n.resolved defs tables c)
unfolding n.resolved
resolved defs tables c = resolved_by defs tables c c.table

pub standing : (s : Scope) (at : ℕ) (f : Found) → Answers (n.standing s at f)
unfolding n.standing
standing s at f = answers_if _ NotGrouped at (answers_value f)

pub column : (s : Scope) (c : ColumnName) → Answers (n.column s c)
unfolding n.column
column s c = answers_then (n.resolved s.defs s.tables c) (resolved s.defs s.tables c) (standing s c.at)

-- ---- forms

pub record Types (T : Typer) : Type 0 where
  pub types : (s : Scope) (role : Role) → Collects (T s role)

literal : (role : Role) (text : List ℕ) (at : ℕ) → Answers (t.literal role text at)
literal Side text at = answers_value (typed_as Text 0 (e.Text text))
literal Alone text at = answers_none TypesDiffer at

named : (s : Scope) (c : ColumnName) → Answers (t.named s c)
unfolding t.named
named s c = answers_then (n.column s c) (column s c) (λ f. answers_value _)

met : (kind : Kind) (scale : ℕ) (a : Aggregate) (before : List Aggregate) → Answers (t.met kind scale a before)
met kind scale a before = answers_value (typed_as kind scale (e.Aggregate (length before) scale), before ++ a ∷ [])

counted : (level : Level) (at : ℕ) → Collects (t.counted level at)
unfolding t.counted
counted level at = record { answers = λ before. answers_if (is_row level) NestedAggregate at (answers_value _) }

folded : (level : Level) (of : Written) (at : ℕ) (a : Typed) → Collects (t.folded level of at a)
unfolding t.folded
folded level of at a = record { answers = λ before. answers_if _ TypesDiffer at (answers_if (is_row level) NestedAggregate at (answers_value _)) }

-- ---- lists

abbrev pub Elements : Type 0
Elements = List ((x : Expr) × Types (typer x))

abbrev pub exprs : Elements → List Expr
exprs xs = map (λ x. x.0) xs

collects_each : (xs : Elements) (s : Scope) (role : Role) (before : List Typed) → Collects (each s role before (map typer (exprs xs)))
collects_each [] s role before = collects_pure before
collects_each (x ∷ xs) s role before = collects_then (x.1.types s role) (λ a. collects_each xs s role (before ++ a ∷ []))

-- ---- an expression is its form at a byte, and a form is a layer over its operands

abbrev IsTyped : Expr → Type 0
IsTyped x = Types (typer x)

abbrev FormIsTyped : Form → Type 0
FormIsTyped form = (at : ℕ) → Types (form_typed form at)

abbrev Layer : Type 0
Layer = Form-F ((x : Form) × FormIsTyped x) ((x : Expr) × IsTyped x)

abbrev opened : Layer → Form-F Form Expr
opened y = map-Form ((x : Form) × FormIsTyped x) ((x : Expr) × IsTyped x) Form Expr (λ e. e.0) (λ e. e.0) y

layer_typed : (x : Form-F Form Expr) → form_typed (roll-Form x) ≡ form_typer (map-Form Form Expr (ℕ → Typer) Typer form_typed typer x)
unfolding typer
layer_typed x = fold-roll-Form (ℕ → Typer) Typer form_typer expr_typer x

by_operands : (x : Form-F Form Expr) → ((at : ℕ) → Types (form_typer (map-Form Form Expr (ℕ → Typer) Typer form_typed typer x) at)) → FormIsTyped (roll-Form x)
by_operands x h at = subst (λ (t : ℕ → Typer). Types (t at)) (sym (layer_typed x)) (h at)

signed : (sign : Sign) (at : ℕ) (a : Typed) → Answers (t.signed sign at a)
unfolding t.signed
signed sign at a = answers_if _ TypesDiffer at (answers_value _)

negated : (at : ℕ) (a : Typed) → Answers (t.negated at a)
unfolding t.negated
negated at a = answers_if _ TypesDiffer at (answers_value _)

binary : (o : BinaryOp) (at : ℕ) (a b : Typed) → Answers (t.binary o at a b)
unfolding t.binary
binary o at a b = answers_if _ TypesDiffer at (answers_if _ ScaleTooLarge at (answers_value _))

divided : (at : ℕ) (a : Typed) (d : Divisor) → Answers (t.divided at a d)
unfolding t.divided
divided at a d = answers_if _ ZeroDivisor d.value_at (answers_if _ TypesDiffer at (answers_value _))

between : (p : Polarity) (at : ℕ) (a low high : Typed) → Answers (t.between p at a low high)
unfolding t.between
between p at a low high = answers_if _ TypesDiffer at (answers_value _)

among : (p : Polarity) (at : ℕ) (a : Typed) (ts : List Typed) → Answers (t.among p at a ts)
unfolding t.among
among p at a ts = answers_if _ TypesDiffer at (answers_value _)

null_test : (p : Polarity) (at : ℕ) (a : Typed) → Answers (t.null_test p at a)
unfolding t.null_test
null_test p at a = answers_if _ TypesDiffer at (answers_value _)

choice : (at : ℕ) (a : Typed) (ts : List Typed) → Answers (t.choice at a ts)
unfolding t.choice
choice at a ts = answers_if _ TypesDiffer at (answers_value _)

by_layer : (y : Layer) → FormIsTyped (roll-Form (opened y))
by_layer (Form-F.Number n scale) = by_operands (Form-F.Number n scale) (λ at. record { types = λ s role. collects_pure (typed_as Number scale (e.Number n scale)) })
by_layer (Form-F.Text text) = by_operands (Form-F.Text text) (λ at. record { types = λ s role. collects_lift (literal role text at) })
by_layer (Form-F.Date day) = by_operands (Form-F.Date day) (λ at. record { types = λ s role. collects_pure (typed_as Date 0 (e.Date day)) })
by_layer (Form-F.Column c) = by_operands (Form-F.Column c) (λ at. record { types = λ s role. collects_lift (named s c) })
by_layer Form-F.CountAll = by_operands Form-F.CountAll (λ at. record { types = λ s role. counted s.level at })
by_layer (Form-F.Aggregate of x) = by_operands (Form-F.Aggregate of x.0) (λ at. record { types = λ s role. collects_then (x.1.types (inside s) Alone) (folded s.level of at) })
by_layer (Form-F.Enclosed x) = by_operands (Form-F.Enclosed x.0) (λ at. record { types = λ s role. x.1.types s role })
by_layer (Form-F.Signed sign x) = by_operands (Form-F.Signed sign x.0) (λ at. record { types = λ s role. collects_then (x.1.types s Alone) (λ a. collects_lift (signed sign at a)) })
by_layer (Form-F.Not x) = by_operands (Form-F.Not x.0) (λ at. record { types = λ s role. collects_then (x.1.types s Alone) (λ a. collects_lift (negated at a)) })
by_layer (Form-F.Binary o place x y) = by_operands (Form-F.Binary o place x.0 y.0) (λ at. record {
  types = λ s role. collects_then (x.1.types s (role_in (family_of o))) (λ a. collects_then (y.1.types s (role_in (family_of o))) (λ b. collects_lift (binary o place a b)));
})
by_layer (Form-F.Divide place x d) = by_operands (Form-F.Divide place x.0 d) (λ at. record { types = λ s role. collects_then (x.1.types s Alone) (λ a. collects_lift (divided place a d)) })
by_layer (Form-F.Between p place x y z) = by_operands (Form-F.Between p place x.0 y.0 z.0) (λ at. record {
  types = λ s role. collects_then (x.1.types s Side) (λ a. collects_then (y.1.types s Side) (λ low. collects_then (z.1.types s Side) (λ high. collects_lift (between p place a low high))));
})
by_layer (Form-F.In p place x ys) = by_operands (Form-F.In p place x.0 (exprs ys)) (λ at. record {
  types = λ s role. collects_then (x.1.types s Side) (λ a. collects_then (collects_each ys s Side []) (λ ts. collects_lift (among p place a ts)));
})
by_layer (Form-F.IsNull p place x) = by_operands (Form-F.IsNull p place x.0) (λ at. record { types = λ s role. collects_then (x.1.types s Alone) (λ a. collects_lift (null_test p place a)) })
by_layer (Form-F.Coalesce x ys) = by_operands (Form-F.Coalesce x.0 (exprs ys)) (λ at. record {
  types = λ s role. collects_then (x.1.types s Alone) (λ a. collects_then (collects_each ys s Alone []) (λ ts. collects_lift (choice at a ts)));
})

by_form : (y : Expr-F ((x : Form) × FormIsTyped x) ((x : Expr) × IsTyped x)) → IsTyped (roll-Expr (map-Expr ((x : Form) × FormIsTyped x) ((x : Expr) × IsTyped x) Form Expr (λ e. e.0) (λ e. e.0) y))
unfolding typer
by_form y =
    let x = map-Expr ((x : Form) × FormIsTyped x) ((x : Expr) × IsTyped x) Form Expr (λ e. e.0) (λ e. e.0) y in
    let types : typer (roll-Expr x) ≡ form_typed y.form.0 y.at = fold-roll-Expr (ℕ → Typer) Typer form_typer expr_typer x in
    subst (λ (T : Typer). Types T) (sym types) (y.form.1 y.at)

pub typed : (x : Expr) → Types (typer x)
typed = ind-Expr FormIsTyped IsTyped (λ x y is. subst (λ z. FormIsTyped (roll-Form z)) is (by_layer y)) (λ x y is. subst (λ z. IsTyped (roll-Expr z)) is (by_form y))

-- a condition
pub condition : (s : Scope) (x : Expr) → Collects (t.condition s x)
unfolding t.condition
condition s x = collects_then ((typed x).types s Alone) (λ a. collects_lift (answers_if _ TypesDiffer x.at (answers_value a.value)))
