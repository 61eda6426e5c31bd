-- The typing of expressions: operands before operators, from left to right, up to the first refusal.
-- After SQL-92 (ISO/IEC 9075:1992), 6.4, 6.5, 6.12, 8.2 to 8.4 and 8.12.
use Rattle.std.specs.Prelude.{ℕ, ◌==◌, Bool, true, false, not, ◌&&◌, ◌||◌, List, [], ◌∷◌, ◌++◌, length, map, Option, Some, None, Ok}
use Rattle.std.specs.List.{list_any, list_all}
use Rattle.query_trees.specs.declared.expr.Expr.{Expr, Expr-F, fold-Expr}
use Rattle.query_trees.specs.declared.expr.Form.{Form-F}
use Rattle.query_trees.specs.declared.expr.BinaryOp.{BinaryOp}
use Rattle.query_trees.specs.declared.expr.Polarity.{Polarity}
use Rattle.query_trees.specs.declared.expr.Sign.{Sign}
use Rattle.query_trees.specs.declared.expr.Sign.TheVariants.{Plus}
use Rattle.query_trees.specs.declared.expr.Divisor.{Divisor}
use Rattle.query_trees.specs.declared.expr.ColumnName.{ColumnName}
use Rattle.query_trees.specs.declared.expr.AggregateKind.{AggregateKind as Written}
use Rattle.query_trees.specs.declared.expr.AggregateKind.TheVariants as written
use Rattle.query_types.specs.declared.refusal.TypeKind.TheVariants.{TypesDiffer, NestedAggregate, ZeroDivisor, ScaleTooLarge}
use Rattle.typed_trees.specs.declared.typed.TypedExpr.{TypedExpr}
use Rattle.typed_trees.specs.declared.typed.TypedExpr.TheVariants as e
use Rattle.typed_trees.specs.declared.typed.AggregateKind.{AggregateKind}
use Rattle.typed_trees.specs.declared.typed.AggregateKind.TheVariants.{Count, Sum, Min, Max, Avg}
use Rattle.typed_trees.specs.declared.typed.Aggregate.{Aggregate}
use Rattle.typed_trees.specs.declared.kinds.Kind.{Kind}
use Rattle.typed_trees.specs.declared.kinds.Kind.TheVariants.{Number, Date, Text, Truth}
use Rattle.typed_trees.specs.declared.kinds.Role.{Role}
use Rattle.typed_trees.specs.declared.kinds.Role.TheVariants.{Side, Alone}
use Rattle.typed_trees.specs.Kinds.{kind_of, is_number, is_truth, compare, family_of, role_in, takes, makes}
use Rattle.typed_trees.specs.Scales.{greatest, binary_scale}
use Rattle.typed_trees.specs.Types.{scale_fits}
use Rattle.query_types.specs.declared.scope.Level.{Level}
use Rattle.query_types.specs.declared.scope.Level.TheVariants.{Row, Group}
use Rattle.query_types.specs.declared.scope.Found.{Found}
use Rattle.query_types.specs.declared.typing.Typed.{Typed}
use Rattle.query_types.specs.Kinds.{folds}
use Rattle.query_types.specs.Names.{Scope, inside, column}
use Rattle.query_types.specs.Outcomes.{Outcome, refuse, refuse_if, and_then, Collecting, ◌>>=◌, pure, lift}

abbrev pub typed_as : Kind → ℕ → TypedExpr → Typed
typed_as kind scale value = record { value = value; kind = kind; scale = scale }

-- ---- each form, over its typed operands

-- A text literal stands only as a side.
abbrev pub literal : Role → List ℕ → ℕ → Outcome Typed
literal Side text at = Ok (typed_as Text 0 (e.Text text))
literal Alone text at = refuse TypesDiffer at

abbrev pub column_typed : Found → Outcome Typed
column_typed f = Ok (typed_as (kind_of f.type_.kind) f.type_.scale (e.Column f.column f.type_))

unfoldable pub named : Scope → ColumnName → Outcome Typed
named s c = and_then (column s c) column_typed

-- a sign and a division keep the scale
unfoldable pub signed : Sign → ℕ → Typed → Outcome Typed
signed s at a = refuse_if (not (is_number a.kind)) TypesDiffer at (Ok (typed_as Number a.scale (e.Signed s a.value)))

unfoldable pub negated : ℕ → Typed → Outcome Typed
negated at a = refuse_if (not (is_truth a.kind)) TypesDiffer at (Ok (typed_as Truth 0 (e.Not a.value)))

-- A sum and a difference have the greater scale of their operands, and a product the sum of the two, which is at most 36.
unfoldable pub binary : BinaryOp → ℕ → Typed → Typed → Outcome Typed
binary o at a b =
    refuse_if (not (takes (family_of o) a.kind b.kind)) TypesDiffer at
    (refuse_if (not (scale_fits o a.scale b.scale)) ScaleTooLarge at
    (Ok (typed_as (makes (family_of o)) (binary_scale o a.scale b.scale) (e.Binary o a.value b.value))))

abbrev pub sign_or_plus : Option Sign → Sign
sign_or_plus (Some s) = s
sign_or_plus None = Plus

-- The divisor is an operand, so it is refused before the operator.
unfoldable pub divided : ℕ → Typed → Divisor → Outcome Typed
divided at a d = refuse_if (d.value == 0) ZeroDivisor d.value_at (refuse_if (not (is_number a.kind)) TypesDiffer at (Ok (typed_as Number a.scale (e.Divide a.value (sign_or_plus d.sign) d.value))))

unfoldable pub between : Polarity → ℕ → Typed → Typed → Typed → Outcome Typed
between p at a low high = refuse_if (not (compare a.kind low.kind && compare a.kind high.kind)) TypesDiffer at (Ok (typed_as Truth 0 (e.Between p a.value low.value high.value)))

abbrev pub compares_with : Kind → Typed → Bool
compares_with kind t = compare kind t.kind

abbrev pub values : List Typed → List TypedExpr
values ts = map (λ t. t.value) ts

unfoldable pub among : Polarity → ℕ → Typed → List Typed → Outcome Typed
among p at a ts = refuse_if (not (list_all (compares_with a.kind) ts)) TypesDiffer at (Ok (typed_as Truth 0 (e.In p a.value (values ts))))

unfoldable pub null_test : Polarity → ℕ → Typed → Outcome Typed
null_test p at a = refuse_if (is_truth a.kind) TypesDiffer at (Ok (typed_as Truth 0 (e.IsNull p a.value)))

abbrev pub scales : List Typed → List ℕ
scales ts = map (λ t. t.scale) ts

-- COALESCE has one kind on all places, and the greatest scale
unfoldable pub choice : ℕ → Typed → List Typed → Outcome Typed
choice at a ts =
    refuse_if (not (list_all (compares_with a.kind) (a ∷ ts))) TypesDiffer at
    (Ok (typed_as a.kind (greatest a.scale (scales ts)) (e.Coalesce a.value (values ts))))

-- ---- aggregates

abbrev pub aggregate_kind : Written → AggregateKind
aggregate_kind written.Count = Count
aggregate_kind written.Sum = Sum
aggregate_kind written.Min = Min
aggregate_kind written.Max = Max
aggregate_kind written.Avg = Avg

-- COUNT, SUM and AVG are numbers, MIN and MAX have their argument's kind.
abbrev pub kind_folded : Written → Kind → Kind
kind_folded written.Count a = Number
kind_folded written.Sum a = Number
kind_folded written.Avg a = Number
kind_folded of a = a

-- COUNT is whole, the others have their argument's scale.
abbrev pub scale_folded : Written → ℕ → ℕ
scale_folded written.Count s = 0
scale_folded of s = s

abbrev pub is_row : Level → Bool
is_row Row = true
is_row Group = false

-- one more aggregate, and the expression that is its value
abbrev pub met : Kind → ℕ → Aggregate → Collecting Typed
met kind scale a = λ before. Ok (typed_as kind scale (e.Aggregate (length before) scale), before ++ a ∷ [])

-- An aggregate stands on a group alone.
unfoldable pub counted : Level → ℕ → Collecting Typed
counted level at = λ before. refuse_if (is_row level) NestedAggregate at (met Number 0 (record { kind = Count; argument = None }) before)

unfoldable pub folded : Level → Written → ℕ → Typed → Collecting Typed
folded level of at a = λ before. refuse_if (not (folds of a.kind)) TypesDiffer at (refuse_if (is_row level) NestedAggregate at (met (kind_folded of a.kind) (scale_folded of a.scale) (record { kind = aggregate_kind of; argument = Some a.value }) before))

-- ---- expressions

-- how an expression is typed where it stands, after the aggregates before it
abbrev pub Typer : Type 0
Typer = Scope → Role → Collecting Typed

-- the values of a list, each of which stands so, after those before
abbrev pub each : Scope → Role → List Typed → List Typer → Collecting (List Typed)
each s role before [] = pure before
each s role before (x ∷ xs) = x s role >>= λ t. each s role (before ++ t ∷ []) xs

-- one form at its first byte, with how its operands are typed
abbrev pub form_typer : Form-F (ℕ → Typer) Typer → ℕ → Typer
form_typer (Form-F.Number n scale) at s role = pure (typed_as Number scale (e.Number n scale))
form_typer (Form-F.Text text) at s role = lift (literal role text at)
form_typer (Form-F.Date day) at s role = pure (typed_as Date 0 (e.Date day))
form_typer (Form-F.Column c) at s role = lift (named s c)
form_typer Form-F.CountAll at s role = counted s.level at
form_typer (Form-F.Aggregate of x) at s role = x (inside s) Alone >>= folded s.level of at
form_typer (Form-F.Enclosed x) at s role = x s role
form_typer (Form-F.Signed sign x) at s role = x s Alone >>= λ a. lift (signed sign at a)
form_typer (Form-F.Not x) at s role = x s Alone >>= λ a. lift (negated at a)
form_typer (Form-F.Binary o place x y) at s role = x s (role_in (family_of o)) >>= λ a. y s (role_in (family_of o)) >>= λ b. lift (binary o place a b)
form_typer (Form-F.Divide place x d) at s role = x s Alone >>= λ a. lift (divided place a d)
form_typer (Form-F.Between p place x y z) at s role = x s Side >>= λ a. y s Side >>= λ low. z s Side >>= λ high. lift (between p place a low high)
form_typer (Form-F.In p place x ys) at s role = x s Side >>= λ a. each s Side [] ys >>= λ ts. lift (among p place a ts)
form_typer (Form-F.IsNull p place x) at s role = x s Alone >>= λ a. lift (null_test p place a)
form_typer (Form-F.Coalesce x ys) at s role = x s Alone >>= λ a. each s Alone [] ys >>= λ ts. lift (choice at a ts)

abbrev pub expr_typer : Expr-F (ℕ → Typer) Typer → Typer
expr_typer x = x.form x.at

-- the typing of an expression
unfoldable pub typer : Expr → Typer
typer = fold-Expr (ℕ → Typer) Typer form_typer expr_typer

-- a condition, which is a truth
unfoldable pub condition : Scope → Expr → Collecting TypedExpr
condition s x = typer x s Alone >>= λ t. lift (refuse_if (not (is_truth t.kind)) TypesDiffer x.at (Ok t.value))

-- ---- forms

abbrev pub form_has_aggregate : Form-F Bool Bool → Bool
form_has_aggregate (Form-F.Number n scale) = false
form_has_aggregate (Form-F.Text text) = false
form_has_aggregate (Form-F.Date day) = false
form_has_aggregate (Form-F.Column c) = false
form_has_aggregate Form-F.CountAll = true
form_has_aggregate (Form-F.Aggregate of x) = true
form_has_aggregate (Form-F.Enclosed x) = x
form_has_aggregate (Form-F.Signed sign x) = x
form_has_aggregate (Form-F.Not x) = x
form_has_aggregate (Form-F.Binary o place x y) = x || y
form_has_aggregate (Form-F.Divide place x d) = x
form_has_aggregate (Form-F.Between p place x y z) = x || (y || z)
form_has_aggregate (Form-F.In p place x ys) = x || list_any (λ y. y) ys
form_has_aggregate (Form-F.IsNull p place x) = x
form_has_aggregate (Form-F.Coalesce x ys) = x || list_any (λ y. y) ys

-- whether an aggregate is written in an expression
unfoldable pub has_aggregate : Expr → Bool
has_aggregate = fold-Expr Bool Bool form_has_aggregate (λ x. x.form)

abbrev pub form_column : Form-F (Option ColumnName) (Option ColumnName) → Option ColumnName
form_column (Form-F.Column c) = Some c
form_column (Form-F.Enclosed x) = x
form_column form = None

-- the column that an expression is, in parentheses or not
unfoldable pub column_alone : Expr → Option ColumnName
column_alone = fold-Expr (Option ColumnName) (Option ColumnName) form_column (λ x. x.form)
