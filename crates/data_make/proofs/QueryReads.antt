-- The query is read, and typed over the made table, computed.
use Rattle.std.proofs.Common.{◌≡◌, ◌∙◌, ℕ, ℤ, Option, List, [], ◌∷◌, ap, sym, refl}
use Rattle.std.specs.Str.{is_utf8, chars}
use Rattle.std.specs.Str.Lossy.{utf8_lossy, utf8_valid_len}
use Rattle.civil_days.proofs.Computing as civil
use Rattle.phrases.specs.Parsers as p
use Rattle.sql_read.specs.Kinds as kinds
use Rattle.sql_read.specs.Lexis as lexis
use Rattle.sql_read.specs.Reserved as words
use Rattle.sql_read.specs.Tokens as tokens
use Rattle.query_read.specs.Literals as literals
use Rattle.query_read.specs.ExpressionParsers as e
use Rattle.query_read.specs.ClauseParsers as c
use Rattle.query_read.specs.QueryText.{query_of}
use Rattle.query_trees.specs.declared.expr.AggregateKind.{AggregateKind}
use Rattle.query_trees.specs.declared.expr.BinaryOp.{BinaryOp}
use Rattle.query_trees.specs.declared.expr.ColumnName.{ColumnName}
use Rattle.query_trees.specs.declared.expr.Expr.{Expr, fold_out-Expr}
use Rattle.query_trees.specs.declared.expr.Form.TheVariants as f
use Rattle.query_trees.specs.declared.expr.Form.{Form, Form-F, fold-Form, fold-roll-Form}
use Rattle.query_trees.specs.declared.expr.Form.TheVariants.{rolls-Column}
use Rattle.query_trees.specs.declared.expr.BinaryOp.TheVariants as op
use Rattle.query_trees.specs.Nodes.{node}
use Rattle.query_types.specs.Expressions.{form_typer, typer, named, binary, counted, folded, condition, form_column, column_alone}
use Rattle.query_types.specs.Grouping.{groups_of, is_grouped}
use Rattle.query_types.specs.Items.{with_value, item}
use Rattle.query_types.specs.Names.{Scope, column_in, bare, qualified, resolved, standing, column}
use Rattle.query_types.specs.Ordering.{by_column, by_bare}
use Rattle.query_types.specs.Sources.{opened, linked, paired, linked_on, first, tables_of}
use Rattle.query_types.specs.Sources as sources
use Rattle.query_types.specs.Typing.{answer, typed_over, typed_query}
use Rattle.query_types.proofs.Typers.{typed-Aggregate, typed-Binary, typed-Column, typed-CountAll, typed-Date}
use Rattle.query_types.specs.Conjuncts.{parts}
use Rattle.query_types.proofs.Parts.{binary-alone}
use Rattle.typed_trees.specs.declared.typed.TypedExpr.{TypedExpr}
use Rattle.typed_trees.specs.declared.typed.TypedExpr.TheVariants as t
use Rattle.typed_trees.specs.declared.kinds.Role.{Role}
use Rattle.typed_trees.specs.declared.typed.Aggregate.{Aggregate}
use Rattle.data_make.specs.Query.{QueryIsRead, QueryIsTyped}

pub query_read : QueryIsRead
unfolding is_utf8 chars utf8_lossy utf8_valid_len literals.single_quoted p.expect p.turns kinds.same_kind lexis.word_kind lexis.sign lexis.front words.reserved_words tokens.tokens e.sound e.another e.series e.column e.date_text e.span_text e.last_day e.step e.date e.number e.literal e.reference e.count e.aggregate e.coalesce e.enclosed e.divisor e.over e.polarity e.nullity e.operation e.atom e.factor e.times e.multiplied e.term e.added e.sum e.compared e.between e.contained e.ranged e.negated e.predicate_tail e.pred e.neg e.conj e.expr e.parens e.listed e.star_or_expr e.counted e.alternatives e.choices e.nots e.signed e.under c.named c.alias c.item c.list c.table c.by_comma c.by_cross c.on c.by_key c.added_table c.join c.source c.condition c.by_groups c.groups c.direction c.sort_by c.key c.order c.distinct c.closed c.query_over query_of civil.days_from_civil civil.day_count civil.days_of_years civil.days_of_months lib.Utf8.encode
query_read = refl

-- ---- each form of an expression, typed

column_typed : (at : ℕ) (c : ColumnName) (s : Scope) (role : Role) (met : List Aggregate) → typer (node at (f.Column c)) s role met ≡ form_typer (Form-F.Column c) at s role met
column_typed at c s role met = ap (λ typing. typing s role met) (typed-Column (node at (f.Column c)) c refl)

date_typed : (at : ℕ) (day : ℤ) (s : Scope) (role : Role) (met : List Aggregate) → typer (node at (f.Date day)) s role met ≡ form_typer (Form-F.Date day) at s role met
date_typed at day s role met = ap (λ typing. typing s role met) (typed-Date (node at (f.Date day)) day refl)

count_typed : (at : ℕ) (s : Scope) (role : Role) (met : List Aggregate) → typer (node at f.CountAll) s role met ≡ form_typer Form-F.CountAll at s role met
count_typed at s role met = ap (λ typing. typing s role met) (typed-CountAll (node at f.CountAll) refl)

aggregate_typed : (at : ℕ) (of : AggregateKind) (x : Expr) (s : Scope) (role : Role) (met : List Aggregate) → typer (node at (f.Aggregate of x)) s role met ≡ form_typer (Form-F.Aggregate of (typer x)) at s role met
aggregate_typed at of x s role met = ap (λ typing. typing s role met) (typed-Aggregate (node at (f.Aggregate of x)) of x refl)

binary_typed : (at : ℕ) (o : BinaryOp) (place : ℕ) (x y : Expr) (s : Scope) (role : Role) (met : List Aggregate) → typer (node at (f.Binary o place x y)) s role met ≡ form_typer (Form-F.Binary o place (typer x) (typer y)) at s role met
binary_typed at o place x y s role met = ap (λ typing. typing s role met) (typed-Binary (node at (f.Binary o place x y)) o place x y refl)

-- ---- the column that an expression is

stands_form : Form → Option ColumnName
stands_form = fold-Form (Option ColumnName) (Option ColumnName) form_column (λ x. x.form)

stands_opens : (x : Expr) → column_alone x ≡ stands_form x.form
unfolding column_alone stands_form
stands_opens x = fold_out-Expr (Option ColumnName) (Option ColumnName) form_column (λ x. x.form) x

column_stands : (at : ℕ) (c : ColumnName) → column_alone (node at (f.Column c)) ≡ form_column (Form-F.Column c)
unfolding column_alone stands_form
column_stands at c = stands_opens (node at (f.Column c)) ∙ (ap stands_form (sym (rolls-Column c)) ∙ fold-roll-Form (Option ColumnName) (Option ColumnName) form_column (λ x. x.form) (Form-F.Column c))

-- a comparison is one part
compared : (x y : TypedExpr) → parts (t.Binary op.GreaterEqual x y) ≡ t.Binary op.GreaterEqual x y ∷ []
compared x y = binary-alone (t.Binary op.GreaterEqual x y) op.GreaterEqual x y refl refl

pub query_typed : QueryIsTyped
unfolding named binary counted folded condition groups_of is_grouped with_value item column_in bare qualified resolved standing column by_column by_bare opened linked paired linked_on sources.with_join first tables_of answer typed_over typed_query
query_typed = simp (column_typed, date_typed, count_typed, aggregate_typed, binary_typed, column_stands, compared) refl
