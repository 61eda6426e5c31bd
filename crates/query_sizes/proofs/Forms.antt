-- Each form of an expression is typed within what it costs, where its operands are.
use Rattle.std.proofs.Common.{◌≡◌, ℕ, ℤ, ◌+◌, ◌≤◌, true, List, [], ◌∷◌, ◌++◌, length, map, Some, None, refl, ap, arith}
use Rattle.query_trees.specs.declared.expr.AggregateKind.{AggregateKind as Written}
use Rattle.query_trees.specs.declared.expr.BinaryOp.{BinaryOp}
use Rattle.query_trees.specs.declared.expr.ColumnName.{ColumnName}
use Rattle.query_trees.specs.declared.expr.Divisor.{Divisor}
use Rattle.query_trees.specs.declared.expr.Polarity.{Polarity}
use Rattle.query_trees.specs.declared.expr.Sign.{Sign}
use Rattle.query_trees.specs.declared.expr.Expr.{Expr}
use Rattle.query_trees.specs.declared.expr.Form.{Form-F}
use Rattle.query_types.specs.declared.refusal.TypeKind.TheVariants.{TypesDiffer, NestedAggregate, ZeroDivisor, ScaleTooLarge}
use Rattle.typed_trees.specs.declared.kinds.Role.{Role}
use Rattle.typed_trees.specs.declared.kinds.Role.TheVariants.{Side, Alone}
use Rattle.typed_trees.specs.declared.kinds.Kind.TheVariants.{Number, Date, Text, Truth}
use Rattle.query_types.specs.declared.scope.Level.{Level}
use Rattle.typed_trees.specs.declared.typed.AggregateKind.TheVariants.{Count}
use Rattle.typed_trees.specs.declared.typed.TypedExpr.TheVariants as e
use Rattle.query_types.specs.declared.typing.Typed.{Typed}
use Rattle.typed_trees.specs.Kinds.{kind_of, family_of, role_in, makes}
use Rattle.typed_trees.specs.Scales.{greatest, binary_scale}
use Rattle.query_types.specs.Names.{Scope, inside, column}
use Rattle.query_types.specs.Expressions as t
use Rattle.query_types.specs.Expressions.{Typer, typer, form_typer, is_row, each, values, typed_as}
use Rattle.query_sizes.specs.Sizes.{nodes}
use Rattle.query_sizes.proofs.Totals.{total, total_more}
use Rattle.query_sizes.proofs.Costs.{cost, costs}
use Rattle.query_sizes.proofs.Nodes.{nodes-Number, nodes-Text, nodes-Date, nodes-Column, nodes-Aggregate, nodes-Signed, nodes-Not, nodes-Binary, nodes-Divide, nodes-Between, nodes-In, nodes-IsNull, nodes-Coalesce}
use Rattle.query_sizes.proofs.Growth.{Holds, holds_value, holds_none, holds_if, holds_then, Grows, grows_pure, grows_lift, grows_then, grows_with, grows_within, grows_still, grows_if, grows_met}

abbrev pub made : Typed → ℕ
made a = nodes a.value

-- what a typer makes in every scope is within c; on rows it adds no aggregate
pub record Within (c : ℕ) (T : Typer) : Type 0 where
  pub some : 1 ≤ c
  pub grows : (s : Scope) (role : Role) → Grows (is_row s.level) c made c (T s role)

-- ---- literals and columns

pub within_number : (n scale at : ℕ) → Within 1 (form_typer (Form-F.Number n scale) at)
within_number n scale at = record { some = omega arith; grows = λ s role. grows_within 1 1 (omega arith) (omega arith) (grows_pure (is_row s.level) 1 made (typed_as Number scale (e.Number n scale)) (omega (arith, nodes-Number n scale))) }

text_made : (role : Role) (text : List ℕ) (at : ℕ) → Holds 1 made (t.literal role text at)
text_made Side text at = holds_value 1 made (typed_as Text 0 (e.Text text)) (omega (arith, nodes-Text text))
text_made Alone text at = holds_none 1 made TypesDiffer at

pub within_text : (text : List ℕ) (at : ℕ) → Within 1 (form_typer (Form-F.Text text) at)
within_text text at = record { some = omega arith; grows = λ s role. grows_within 1 1 (omega arith) (omega arith) (grows_lift (is_row s.level) (text_made role text at)) }

pub within_date : (day : ℤ) (at : ℕ) → Within 2 (form_typer (Form-F.Date day) at)
within_date day at = record { some = omega arith; grows = λ s role. grows_within 2 2 (omega arith) (omega arith) (grows_pure (is_row s.level) 2 made (typed_as Date 0 (e.Date day)) (omega (arith, nodes-Date day))) }

column_made : (s : Scope) (c : ColumnName) → Holds 1 made (t.named s c)
unfolding t.named
column_made s c = holds_then (column s c) (λ f. holds_value 1 made (typed_as (kind_of f.type_.kind) f.type_.scale (e.Column f.column f.type_)) (omega (arith, nodes-Column f.column f.type_)))

pub within_column : (c : ColumnName) (at : ℕ) → Within 1 (form_typer (Form-F.Column c) at)
within_column c at = record { some = omega arith; grows = λ s role. grows_within 1 1 (omega arith) (omega arith) (grows_lift (is_row s.level) (column_made s c)) }

-- ---- aggregates

counted : (level : Level) (at : ℕ) → Grows (is_row level) 4 made 4 (t.counted level at)
unfolding t.counted
counted level at = grows_met (is_row level) NestedAggregate at 4 made (λ before. typed_as Number 0 (e.Aggregate (length before) 0)) (record { kind = Count; argument = None }) (λ before. omega (arith, nodes-Aggregate (length before) 0))

pub within_count : (at : ℕ) → Within 4 (form_typer Form-F.CountAll at)
within_count at = record { some = omega arith; grows = λ s role. counted s.level at }

-- an aggregate takes its argument's nodes, and is a node itself
folded : (level : Level) (of : Written) (at : ℕ) (a : Typed) → Grows (is_row level) (1 + made a) made 4 (t.folded level of at a)
unfolding t.folded
folded level of at a =
    grows_if _ TypesDiffer at
    (grows_met (is_row level) NestedAggregate at (1 + made a) made (λ before. typed_as (t.kind_folded of a.kind) (t.scale_folded of a.scale) (e.Aggregate (length before) (t.scale_folded of a.scale))) (record { kind = t.aggregate_kind of; argument = Some a.value })
    (λ before. omega (arith, nodes-Aggregate (length before) (t.scale_folded of a.scale))))

-- Its argument stands on rows, where there are no aggregates.
pub within_aggregate : (of : Written) (at c : ℕ) (T : Typer) → Within c T → Within (3 + c) (form_typer (Form-F.Aggregate of T) at)
within_aggregate of at c T h = record {
  some = omega arith;
  grows = λ s role.
      let some = h.some in
      let argument : Grows true c made c (T (inside s) Alone) = h.grows (inside s) Alone in
      grows_within (3 + c) (3 + c) (omega arith) (omega (arith, some))
      (grows_then (grows_with 1 (1 + c) 0 (omega arith) (omega arith) (grows_still (is_row s.level) argument)) (λ a. folded s.level of at a));
}

-- ---- operators

pub within_enclosed : (at c : ℕ) (T : Typer) → Within c T → Within (2 + c) (form_typer (Form-F.Enclosed T) at)
within_enclosed at c T h = record { some = omega arith; grows = λ s role. grows_within (2 + c) (2 + c) (omega arith) (omega arith) (h.grows s role) }

signed_made : (sign : Sign) (at : ℕ) (a : Typed) → Holds (1 + made a) made (t.signed sign at a)
unfolding t.signed
signed_made sign at a = holds_if _ TypesDiffer at (holds_value (1 + made a) made (typed_as Number a.scale (e.Signed sign a.value)) (omega (arith, nodes-Signed sign a.value)))

pub within_signed : (sign : Sign) (at c : ℕ) (T : Typer) → Within c T → Within (1 + c) (form_typer (Form-F.Signed sign T) at)
within_signed sign at c T h = record {
  some = omega arith;
  grows = λ s role.
      grows_within (1 + c) (1 + c) (omega arith) (omega arith)
      (grows_then (grows_with 1 (1 + c) c (omega arith) (omega arith) (h.grows s Alone)) (λ a. grows_lift (is_row s.level) (signed_made sign at a)));
}

negated_made : (at : ℕ) (a : Typed) → Holds (1 + made a) made (t.negated at a)
unfolding t.negated
negated_made at a = holds_if _ TypesDiffer at (holds_value (1 + made a) made (typed_as Truth 0 (e.Not a.value)) (omega (arith, nodes-Not a.value)))

pub within_not : (at c : ℕ) (T : Typer) → Within c T → Within (1 + c) (form_typer (Form-F.Not T) at)
within_not at c T h = record {
  some = omega arith;
  grows = λ s role.
      grows_within (1 + c) (1 + c) (omega arith) (omega arith)
      (grows_then (grows_with 1 (1 + c) c (omega arith) (omega arith) (h.grows s Alone)) (λ a. grows_lift (is_row s.level) (negated_made at a)));
}

binary_made : (o : BinaryOp) (place : ℕ) (a b : Typed) → Holds (1 + made a + made b) made (t.binary o place a b)
unfolding t.binary
binary_made o place a b = holds_if _ TypesDiffer place (holds_if _ ScaleTooLarge place (holds_value (1 + made a + made b) made (typed_as (makes (family_of o)) (binary_scale o a.scale b.scale) (e.Binary o a.value b.value)) (omega (arith, nodes-Binary o a.value b.value))))

pub within_binary : (o : BinaryOp) (place at c d : ℕ) (T U : Typer) → Within c T → Within d U → Within (1 + c + d) (form_typer (Form-F.Binary o place T U) at)
within_binary o place at c d T U h g = record {
  some = omega arith;
  grows = λ s role.
      grows_within (1 + c + d) (1 + c + d) (omega arith) (omega arith)
      (grows_then (grows_with (1 + d) (1 + c + d) c (omega arith) (omega arith) (h.grows s (role_in (family_of o)))) (λ a.
      grows_then (grows_with (1 + made a) (1 + d + made a) d (omega arith) (omega arith) (g.grows s (role_in (family_of o)))) (λ b.
      grows_lift (is_row s.level) (binary_made o place a b))));
}

divided_made : (place : ℕ) (a : Typed) (d : Divisor) → Holds (2 + made a) made (t.divided place a d)
unfolding t.divided
divided_made place a d = holds_if _ ZeroDivisor d.value_at (holds_if _ TypesDiffer place (holds_value (2 + made a) made (typed_as Number a.scale (e.Divide a.value (t.sign_or_plus d.sign) d.value)) (omega (arith, nodes-Divide a.value (t.sign_or_plus d.sign) d.value))))

pub within_divide : (place : ℕ) (d : Divisor) (at c : ℕ) (T : Typer) → Within c T → Within (2 + c) (form_typer (Form-F.Divide place T d) at)
within_divide place d at c T h = record {
  some = omega arith;
  grows = λ s role.
      grows_within (2 + c) (2 + c) (omega arith) (omega arith)
      (grows_then (grows_with 2 (2 + c) c (omega arith) (omega arith) (h.grows s Alone)) (λ a. grows_lift (is_row s.level) (divided_made place a d)));
}

between_made : (p : Polarity) (place : ℕ) (a low high : Typed) → Holds (1 + made a + made low + made high) made (t.between p place a low high)
unfolding t.between
between_made p place a low high = holds_if _ TypesDiffer place (holds_value (1 + made a + made low + made high) made (typed_as Truth 0 (e.Between p a.value low.value high.value)) (omega (arith, nodes-Between p a.value low.value high.value)))

pub within_between : (p : Polarity) (place at c d f : ℕ) (T U V : Typer) → Within c T → Within d U → Within f V → Within (2 + c + d + f) (form_typer (Form-F.Between p place T U V) at)
within_between p place at c d f T U V h g l = record {
  some = omega arith;
  grows = λ s role.
      grows_within (2 + c + d + f) (2 + c + d + f) (omega arith) (omega arith)
      (grows_then (grows_with (1 + d + f) (1 + c + d + f) c (omega arith) (omega arith) (h.grows s Side)) (λ a.
      grows_then (grows_with (1 + f + made a) (1 + d + f + made a) d (omega arith) (omega arith) (g.grows s Side)) (λ low.
      grows_then (grows_with (1 + made a + made low) (1 + f + made a + made low) f (omega arith) (omega arith) (l.grows s Side)) (λ high.
      grows_lift (is_row s.level) (between_made p place a low high)))));
}

-- ---- lists

-- the elements of a list, each typed within what it costs
abbrev pub Elements : Type 0
Elements = List ((x : Expr) × Within (cost x) (typer x))

abbrev pub exprs : Elements → List Expr
exprs xs = map (λ x. x.0) xs

abbrev pub made_all : List Typed → ℕ
made_all ts = total made ts

grows_each : (xs : Elements) (s : Scope) (role : Role) (before : List Typed) → Grows (is_row s.level) (made_all before + costs (exprs xs)) made_all (costs (exprs xs)) (each s role before (map typer (exprs xs)))
grows_each [] s role before = grows_pure (is_row s.level) (made_all before + 0) made_all before (omega arith)
grows_each (x ∷ xs) s role before =
    let rest = costs (exprs xs) in
    grows_then (grows_with (made_all before + rest) (made_all before + (cost x.0 + rest)) (cost x.0) (omega arith) (omega arith) (x.1.grows s role)) (λ a.
    grows_within (made_all before + rest + made a) rest (omega (arith, total_more made before a)) (omega arith) (grows_each xs s role (before ++ a ∷ [])))

values_made : (ts : List Typed) → total nodes (values ts) ≡ made_all ts
values_made [] = refl
values_made (a ∷ ts) = ap (λ n. made a + n) (values_made ts)

among_made : (p : Polarity) (place : ℕ) (a : Typed) (ts : List Typed) → Holds (1 + made a + made_all ts) made (t.among p place a ts)
unfolding t.among
among_made p place a ts = holds_if _ TypesDiffer place (holds_value (1 + made a + made_all ts) made (typed_as Truth 0 (e.In p a.value (values ts))) (omega (arith, nodes-In p a.value (values ts), values_made ts)))

pub within_in : (p : Polarity) (place at c : ℕ) (T : Typer) (xs : Elements) → Within c T → Within (3 + c + costs (exprs xs)) (form_typer (Form-F.In p place T (map typer (exprs xs))) at)
within_in p place at c T xs h = record {
  some = omega arith;
  grows = λ s role.
      let rest = costs (exprs xs) in
      grows_within (3 + c + rest) (3 + c + rest) (omega arith) (omega arith)
      (grows_then (grows_with (1 + rest) (1 + c + rest) c (omega arith) (omega arith) (h.grows s Side)) (λ a.
      grows_then (grows_with (1 + made a) (1 + rest + made a) rest (omega arith) (omega arith) (grows_each xs s Side [])) (λ ts.
      grows_lift (is_row s.level) (among_made p place a ts))));
}

-- ---- IS NULL and COALESCE

null_made : (p : Polarity) (place : ℕ) (a : Typed) → Holds (1 + made a) made (t.null_test p place a)
unfolding t.null_test
null_made p place a = holds_if _ TypesDiffer place (holds_value (1 + made a) made (typed_as Truth 0 (e.IsNull p a.value)) (omega (arith, nodes-IsNull p a.value)))

pub within_null : (p : Polarity) (place at c : ℕ) (T : Typer) → Within c T → Within (2 + c) (form_typer (Form-F.IsNull p place T) at)
within_null p place at c T h = record {
  some = omega arith;
  grows = λ s role.
      grows_within (2 + c) (2 + c) (omega arith) (omega arith)
      (grows_then (grows_with 1 (1 + c) c (omega arith) (omega arith) (h.grows s Alone)) (λ a. grows_lift (is_row s.level) (null_made p place a)));
}

choice_made : (at : ℕ) (a : Typed) (ts : List Typed) → Holds (1 + made a + made_all ts) made (t.choice at a ts)
unfolding t.choice
choice_made at a ts = holds_if _ TypesDiffer at (holds_value (1 + made a + made_all ts) made (typed_as a.kind (greatest a.scale (t.scales ts)) (e.Coalesce a.value (values ts))) (omega (arith, nodes-Coalesce a.value (values ts), values_made ts)))

pub within_coalesce : (at c : ℕ) (T : Typer) (xs : Elements) → Within c T → Within (3 + c + costs (exprs xs)) (form_typer (Form-F.Coalesce T (map typer (exprs xs))) at)
within_coalesce at c T xs h = record {
  some = omega arith;
  grows = λ s role.
      let rest = costs (exprs xs) in
      grows_within (3 + c + rest) (3 + c + rest) (omega arith) (omega arith)
      (grows_then (grows_with (1 + rest) (1 + c + rest) c (omega arith) (omega arith) (h.grows s Alone)) (λ a.
      grows_then (grows_with (1 + made a) (1 + rest + made a) rest (omega arith) (omega arith) (grows_each xs s Alone [])) (λ ts.
      grows_lift (is_row s.level) (choice_made at a ts))));
}
