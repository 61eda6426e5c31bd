-- The literals of each form that typing gives are as the grammar has them, where those of its operands are, and its scale is at most 36.
use Rattle.std.proofs.Common.{◌≡◌, ◌∙◌, ℕ, ℤ, ◌+◌, ◌^◌, ◌≤◌, ◌==◌, Bool, true, not, ◌&&◌, List, [], ◌∷◌, map, max, Ok, refl, subst, ap, arith}
use Rattle.std.specs.Prelude.{All, nat_le}
use Rattle.std.specs.List.{list_all}
use Rattle.std.proofs.lemmas.Bool.{not-false, and_from, and_parts, le-leb, leb-true, lt-ltb}
use Rattle.std.proofs.lemmas.List.Elements.{All-head, All-tail}
use Rattle.civil_days.specs.Dates.{in_range}
use Rattle.sql_read.specs.Lexis.{max_integer, max_scale}
use Rattle.sql_read.specs.declared.definition.ColumnKind.{ColumnKind}
use Rattle.sql_read.specs.declared.definition.ColumnKind.TheVariants as column
use Rattle.query_trees.specs.declared.expr.AggregateKind.{AggregateKind as Written}
use Rattle.query_trees.specs.declared.expr.AggregateKind.TheVariants as written
use Rattle.query_trees.specs.declared.expr.BinaryOp.{BinaryOp}
use Rattle.query_trees.specs.declared.expr.BinaryOp.TheVariants as op
use Rattle.query_trees.specs.declared.expr.ColumnName.{ColumnName}
use Rattle.query_trees.specs.declared.expr.Divisor.{Divisor}
use Rattle.query_trees.specs.declared.expr.Polarity.{Polarity}
use Rattle.query_trees.specs.declared.expr.Sign.{Sign}
use Rattle.typed_trees.specs.declared.kinds.Kind.{Kind}
use Rattle.typed_trees.specs.declared.kinds.Kind.TheVariants.{Number, Date, Text, Truth}
use Rattle.typed_trees.specs.declared.kinds.Role.{Role}
use Rattle.typed_trees.specs.declared.kinds.Role.TheVariants.{Side, Alone}
use Rattle.typed_trees.specs.declared.typed.ColumnRef.{ColumnRef}
use Rattle.typed_trees.specs.declared.typed.ColumnType.{ColumnType}
use Rattle.typed_trees.specs.declared.typed.TypedExpr.TheVariants as e
use Rattle.typed_trees.specs.Kinds.{kind_of, is_number, is_truth, compare, family_of, takes, makes}
use Rattle.typed_trees.specs.Scales.{greatest, binary_scale}
use Rattle.typed_trees.specs.Types.{scale_fits}
use Rattle.query_types.specs.declared.refusal.TypeKind.TheVariants.{TypesDiffer, ZeroDivisor, ScaleTooLarge}
use Rattle.query_types.specs.declared.scope.Found.{Found}
use Rattle.query_types.specs.declared.typing.Typed.{Typed}
use Rattle.query_types.specs.Names.{Scope, column}
use Rattle.query_types.specs.Expressions as t
use Rattle.query_types.specs.Expressions.{values, scales}
use Rattle.query_types.proofs.OutcomeLaws.{ok_same, then_ok, not_refused}
use Rattle.expr_values.specs.Written.{fits_127, is_scale}
use Rattle.written_queries.specs.Laws.{column_scale, is_as_written}
use Rattle.written_queries.specs.Scales.{IsScaledAs, HasScales}
use Rattle.written_queries.proofs.Columns.{named_scaled}
use Rattle.written_queries.proofs.WrittenForms.{written_Number, written_Text, written_Date, written_Column, written_Aggregate, written_Signed, written_Not, written_Binary, written_Divide, written_Between, written_In, written_IsNull, written_Coalesce}

pub record Good (x : Typed) : Type 0 where
  pub written : is_as_written x.value ≡ true
  pub scale : x.scale ≤ 36

abbrev pub AreGood : List Typed → Type 0
AreGood ts = All Good ts

-- ---- bounds

most_127 : 2 ^ 127 ≡ 170141183460469231731687303715884105728
most_127 = refl

fits : (n : ℕ) → nat_le n max_integer ≡ true → fits_127 n ≡ true
fits n h = lt-ltb n (2 ^ 127) (omega (arith, leb-true n max_integer h, most_127))

scaled : (n : ℕ) → n ≤ 36 → is_scale n ≡ true
scaled n h = le-leb n 36 h

column_most : (kind : ColumnKind) (n : ℕ) → IsScaledAs kind n → n ≤ 36
column_most column.Integer n h = omega (arith, h)
column_most column.Date n h = omega (arith, h)
column_most column.Text n h = omega (arith, h)
column_most column.Decimal n h = omega (arith, h)

column_kind : (kind : ColumnKind) (n : ℕ) → IsScaledAs kind n → column_scale kind n ≡ true
column_kind column.Integer n h = ap (λ (m : ℕ). m == 0) h
column_kind column.Date n h = ap (λ (m : ℕ). m == 0) h
column_kind column.Text n h = ap (λ (m : ℕ). m == 0) h
column_kind column.Decimal n h = le-leb n max_scale h

-- ---- literals and columns

pub number_good : (n scale : ℕ) → (nat_le n max_integer && nat_le scale max_scale) ≡ true → Good (t.typed_as Number scale (e.Number n scale))
number_good n scale h =
    let both = and_parts (nat_le n max_integer) (nat_le scale max_scale) h in
    let most : scale ≤ 36 = omega (arith, leb-true scale max_scale both.1) in
    record { written = written_Number n scale ∙ and_from (fits_127 n) (is_scale scale) (fits n both.0) (scaled scale most); scale = most }

pub date_good : (day : ℤ) → in_range day ≡ true → Good (t.typed_as Date 0 (e.Date day))
date_good day h = record { written = written_Date day ∙ h; scale = omega arith }

pub text_good : (role : Role) (text : List ℕ) (at : ℕ) (x : Typed) → t.literal role text at ≡ Ok x → Good x
text_good Side text at x is = subst Good (ok_same (t.typed_as Text 0 (e.Text text)) x is) (record { written = written_Text text; scale = omega arith })
text_good Alone text at x is = absurd (cc)

abbrev pub column_of : ColumnRef → ColumnType → Typed
column_of c type = t.typed_as (kind_of type.kind) type.scale (e.Column c type)

pub found_good : (c : ColumnRef) (type : ColumnType) → IsScaledAs type.kind type.scale → Good (column_of c type)
found_good c type h = record { written = written_Column c type ∙ column_kind type.kind type.scale h; scale = column_most type.kind type.scale h }

pub column_good : (s : Scope) (c : ColumnName) (x : Typed) → HasScales s.defs → t.named s c ≡ Ok x → Good x
unfolding t.named
column_good s c x h is =
    let y = then_ok (column s c) t.column_typed x is in
    let f : Found = y.0 in
    subst Good (ok_same (column_of f.column f.type_) x y.2) (found_good f.column f.type_ (named_scaled s c f h y.1))

-- ---- aggregates

pub aggregate_good : (kind : Kind) (place scale : ℕ) → scale ≤ 36 → Good (t.typed_as kind scale (e.Aggregate place scale))
aggregate_good kind place scale h = record { written = written_Aggregate place scale ∙ scaled scale h; scale = h }

pub scale_folded : (of : Written) (s : ℕ) → s ≤ 36 → t.scale_folded of s ≤ 36
scale_folded written.Count s h = omega arith
scale_folded written.Sum s h = h
scale_folded written.Min s h = h
scale_folded written.Max s h = h
scale_folded written.Avg s h = h

-- ---- operators

pub signed_good : (sign : Sign) (at : ℕ) (a x : Typed) → Good a → t.signed sign at a ≡ Ok x → Good x
unfolding t.signed
signed_good sign at a x h is =
    let y = not_refused (not (is_number a.kind)) TypesDiffer at _ x is in
    subst Good (ok_same (t.typed_as Number a.scale (e.Signed sign a.value)) x y.1) (record { written = written_Signed sign a.value ∙ h.written; scale = h.scale })

pub negated_good : (at : ℕ) (a x : Typed) → Good a → t.negated at a ≡ Ok x → Good x
unfolding t.negated
negated_good at a x h is =
    let y = not_refused (not (is_truth a.kind)) TypesDiffer at _ x is in
    subst Good (ok_same (t.typed_as Truth 0 (e.Not a.value)) x y.1) (record { written = written_Not a.value ∙ h.written; scale = omega arith })

greater : (s r : ℕ) → s ≤ 36 → r ≤ 36 → max s r ≤ 36
greater s r h g = grind (arith, h, g)

operator_scale : (o : BinaryOp) (s r : ℕ) → s ≤ 36 → r ≤ 36 → scale_fits o s r ≡ true → binary_scale o s r ≤ 36
operator_scale op.Add s r h g is = greater s r h g
operator_scale op.Subtract s r h g is = greater s r h g
operator_scale op.Multiply s r h g is = leb-true (s + r) 36 is
operator_scale op.Or s r h g is = omega arith
operator_scale op.And s r h g is = omega arith
operator_scale op.Equal s r h g is = omega arith
operator_scale op.Differs s r h g is = omega arith
operator_scale op.Less s r h g is = omega arith
operator_scale op.LessEqual s r h g is = omega arith
operator_scale op.Greater s r h g is = omega arith
operator_scale op.GreaterEqual s r h g is = omega arith

pub binary_good : (o : BinaryOp) (at : ℕ) (a b x : Typed) → Good a → Good b → t.binary o at a b ≡ Ok x → Good x
unfolding t.binary
binary_good o at a b x h g is =
    let y = not_refused (not (takes (family_of o) a.kind b.kind)) TypesDiffer at _ x is in
    let z = not_refused (not (scale_fits o a.scale b.scale)) ScaleTooLarge at _ x y.1 in
    subst Good (ok_same (t.typed_as (makes (family_of o)) (binary_scale o a.scale b.scale) (e.Binary o a.value b.value)) x z.1) (record {
      written = written_Binary o a.value b.value ∙ and_from (is_as_written a.value) (is_as_written b.value) h.written g.written;
      scale = operator_scale o a.scale b.scale h.scale g.scale (not-false (scale_fits o a.scale b.scale) z.0);
    })

pub divided_good : (at : ℕ) (a : Typed) (d : Divisor) (x : Typed) → nat_le d.value max_integer ≡ true → Good a → t.divided at a d ≡ Ok x → Good x
unfolding t.divided
divided_good at a d x most h is =
    let y = not_refused (d.value == 0) ZeroDivisor d.value_at _ x is in
    let z = not_refused (not (is_number a.kind)) TypesDiffer at _ x y.1 in
    subst Good (ok_same (t.typed_as Number a.scale (e.Divide a.value (t.sign_or_plus d.sign) d.value)) x z.1) (record {
      written = written_Divide a.value (t.sign_or_plus d.sign) d.value ∙ and_from (fits_127 d.value) (is_as_written a.value) (fits d.value most) h.written;
      scale = h.scale;
    })

pub between_good : (p : Polarity) (at : ℕ) (a low high x : Typed) → Good a → Good low → Good high → t.between p at a low high ≡ Ok x → Good x
unfolding t.between
between_good p at a low high x h g i is =
    let y = not_refused (not (compare a.kind low.kind && compare a.kind high.kind)) TypesDiffer at _ x is in
    subst Good (ok_same (t.typed_as Truth 0 (e.Between p a.value low.value high.value)) x y.1) (record {
      written = written_Between p a.value low.value high.value ∙ and_from (is_as_written a.value) _ h.written (and_from (is_as_written low.value) (is_as_written high.value) g.written i.written);
      scale = omega arith;
    })

pub null_test_good : (p : Polarity) (at : ℕ) (a x : Typed) → Good a → t.null_test p at a ≡ Ok x → Good x
unfolding t.null_test
null_test_good p at a x h is =
    let y = not_refused (is_truth a.kind) TypesDiffer at _ x is in
    subst Good (ok_same (t.typed_as Truth 0 (e.IsNull p a.value)) x y.1) (record { written = written_IsNull p a.value ∙ h.written; scale = omega arith })

-- ---- lists of operands

list_written : (ts : List Typed) → AreGood ts → list_all (λ (b : Bool). b) (map is_as_written (values ts)) ≡ true
list_written [] h = refl
list_written (x ∷ ts) h =
    and_from (is_as_written x.value) (list_all (λ (b : Bool). b) (map is_as_written (values ts))) (All-head Good x ts h).written (list_written ts (All-tail Good x ts h))

all_written : (a : Typed) (ts : List Typed) → Good a → AreGood ts → (is_as_written a.value && list_all (λ (b : Bool). b) (map is_as_written (values ts))) ≡ true
all_written a ts h g = and_from (is_as_written a.value) (list_all (λ (b : Bool). b) (map is_as_written (values ts))) h.written (list_written ts g)

greatest_most : (s : ℕ) (ts : List Typed) → s ≤ 36 → AreGood ts → greatest s (scales ts) ≤ 36
greatest_most s [] h g = h
greatest_most s (x ∷ ts) h g = greater s (greatest x.scale (scales ts)) h (greatest_most x.scale ts (All-head Good x ts g).scale (All-tail Good x ts g))

pub among_good : (p : Polarity) (at : ℕ) (a : Typed) (ts : List Typed) (x : Typed) → Good a → AreGood ts → t.among p at a ts ≡ Ok x → Good x
unfolding t.among
among_good p at a ts x h g is =
    let y = not_refused (not (list_all (t.compares_with a.kind) ts)) TypesDiffer at _ x is in
    subst Good (ok_same (t.typed_as Truth 0 (e.In p a.value (values ts))) x y.1) (record { written = written_In p a.value (values ts) ∙ all_written a ts h g; scale = omega arith })

pub choice_good : (at : ℕ) (a : Typed) (ts : List Typed) (x : Typed) → Good a → AreGood ts → t.choice at a ts ≡ Ok x → Good x
unfolding t.choice
choice_good at a ts x h g is =
    let y = not_refused (not (list_all (t.compares_with a.kind) (a ∷ ts))) TypesDiffer at _ x is in
    subst Good (ok_same (t.typed_as a.kind (greatest a.scale (scales ts)) (e.Coalesce a.value (values ts))) x y.1) (record {
      written = written_Coalesce a.value (values ts) ∙ all_written a ts h g;
      scale = greatest_most a.scale ts h.scale g;
    })
